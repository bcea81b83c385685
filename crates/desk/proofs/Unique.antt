-- A line is determined: two texts that meet its contract are equal, and so are the counts. Assumes nothing.
use Prim.Native.Nat.{ℕ}
use mathlib.Core.Path.{◌≡◌, sym, ap, ◌∙◌}
use mathlib.Core.List.{List, ◌++◌}
use lib.ListN.{length, drop, take-append-drop}
use Rattle.io.specs.Counts.{IsPrefixLen}
use Rattle.desk.specs.Line.{Lined}

whole : (line old new : List ℕ) (r : ℕ) → Lined line old r new → new ≡ line ++ drop r old
whole line old new r (front, rest) =
    sym (take-append-drop r new) ∙ ap (λ (l : List ℕ). l ++ drop r new) front ∙ ap (λ (l : List ℕ). line ++ l) rest

module _ (line old new new' : List ℕ) (r r' : ℕ) (counts : IsPrefixLen r new) (counts' : IsPrefixLen r' new') (one : Lined line old r new) (other : Lined line old r' new') where
  pub count_unique : r ≡ r'
  count_unique = counts.1 ∙ ap length (one.0 ∙ sym other.0) ∙ sym counts'.1

  pub text_unique : new ≡ new'
  text_unique = whole line old new r one ∙ ap (λ (n : ℕ). line ++ drop n old) count_unique ∙ sym (whole line old new' r' other)
