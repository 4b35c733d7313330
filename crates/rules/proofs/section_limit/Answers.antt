-- `section_limit` promises the theorem, its worked instances, the runs and the records.
use Rattle.rules.proofs.Theorem.{same_meaning_of}
use Rattle.rules.proofs.Instances.{worked}
use Rattle.rules.proofs.Runs.{measured}
use Rattle.rules.proofs.Records.{starred_hold}
use Rattle.rules.proofs.section_limit.Goals as goal

pub returns-clause-same_meaning : goal.returns-clause-same_meaning
returns-clause-same_meaning c = same_meaning_of

pub returns-clause-meaning_worked : goal.returns-clause-meaning_worked
returns-clause-meaning_worked c = worked

pub returns-clause-measured : goal.returns-clause-measured
returns-clause-measured c = measured

pub returns-clause-starred_hold : goal.returns-clause-starred_hold
returns-clause-starred_hold c = starred_hold
