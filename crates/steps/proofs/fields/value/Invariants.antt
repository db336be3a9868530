-- `steps::fields::value` meets its contract. Invariant: `v` is the value of the digits before `digit`. Assumes nothing.
use Rattle.steps.proofs.Scanning.{ValueSoFar}
use Rattle.steps.proofs.fields.value.Given as goal

abbrev pub invariant-loop-digit : goal.invariant-loop-digit
invariant-loop-digit l = ValueSoFar l.digits l.v l.digit-index
