-- A run is determined: two answers that meet its contract are equal, and so are the results. Assumes nothing.
use Rattle.std.specs.Prelude.{Result}
use Prim.Native.Nat.{ℕ}
use mathlib.Core.Path.{◌≡◌, sym, ◌∙◌}
use mathlib.Core.List.{List}
use Rattle.answer.specs.declared.Done.{Done}
use Rattle.answer.specs.declared.Refused.{Refused}
use Rattle.answer.proofs.Same.{answer_same}
use Rattle.tick.specs.Tick.{Ran}

module _ (file vectors old : List ℕ) (r r' : Result Done Refused) (new new' : List ℕ) (one : Ran file vectors old r new) (other : Ran file vectors old r' new') where
  pub answer_unique : r ≡ r'
  answer_unique = answer_same r r' (one.answer ∙ sym other.answer)

  pub result_unique : new ≡ new'
  result_unique = one.result ∙ sym other.result
