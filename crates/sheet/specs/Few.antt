-- How a vector of a fixed capacity is stored: its items, then blanks. Assumes nothing.
use Rattle.std.specs.Prelude.{ℕ, ◌-◌, ◌≤◌, ◌≡◌, List, ◌++◌, length, take, drop, replicate}
use Rattle.std.proofs.Common.{sym, ap, ◌∙◌, subst, length-take-le, take-append-drop}

-- of as many places as the capacity, those after the items hold the blank
pub record IsStored {T : Type 0} (capacity : ℕ) (blank : T) (places : List T) (len : ℕ) : Type 0 where
  pub fits : len ≤ capacity
  pub size : length places ≡ capacity
  pub blanks : drop len places ≡ replicate (capacity - len) blank

-- so the items tell the length and all places
module _ {T : Type 0} {capacity : ℕ} {blank : T} {places : List T} {len : ℕ} (stored : IsStored capacity blank places len) where
  pub told_len : length (take len places) ≡ len
  told_len = length-take-le len places (subst (λ n. len ≤ n) (sym stored.size) stored.fits)

  pub told_places : take len places ++ replicate (capacity - length (take len places)) blank ≡ places
  told_places =
      ap (λ n. take len places ++ replicate (capacity - n) blank) told_len ∙ ap (λ rest. take len places ++ rest) (sym stored.blanks)
      ∙ take-append-drop len places
