-- What is read of a grouping is determined: two answers that meet the contract are equal, and so are the classes. Assumes nothing.
use Rattle.std.specs.Prelude.{Result, Ok, Err}
use Prim.Native.Nat.{ℕ}
use mathlib.Core.Path.{◌≡◌, refl, sym, ap₂, ◌∙◌}
use mathlib.Core.List.{List}
use Rattle.answer.specs.declared.Refusal.{Refusal}
use Rattle.answer.specs.declared.Fault.{Fault}
use Rattle.answer.specs.Meant.{refusal_of, read_by}
use Rattle.answer.proofs.Same.{refusal_same}
use Rattle.classes.specs.Grouping.{Grouped}

reading_same : (r r' : Result Unit Fault) (cs cs' : List ℕ) → read_by (λ _. cs) r ≡ read_by (λ _. cs') r' → r ≡ r'
unfolding read_by
reading_same (Ok v) (Ok v') cs cs' e = refl
reading_same (Ok v) (Err f) cs cs' e = absurd (cc)
reading_same (Err f) (Ok v) cs cs' e = absurd (cc)
reading_same (Err f) (Err f') cs cs' e =
    let said : refusal_of f.refusal ≡ refusal_of f'.refusal = cc in
    let same : f.refusal ≡ f'.refusal = refusal_same f.refusal f'.refusal said in
    let place : f.at ≡ f'.at = cc in
    ap₂ (λ (k : Refusal) (at : ℕ). Err (record { refusal = k; at = at })) same place

module _ (file old : List ℕ) (r r' : Result Unit Fault) (new new' : List ℕ) (one : Grouped file old r new) (other : Grouped file old r' new') where
  pub reading_unique : r ≡ r'
  reading_unique = reading_same r r' new new' (one.reading ∙ sym other.reading)

  pub classes_unique : new ≡ new'
  classes_unique = one.classes ∙ sym other.classes
