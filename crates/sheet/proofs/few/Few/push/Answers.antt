-- One item more takes the place of the first blank. Assumes nothing.
use Rattle.std.proofs.Common.{◌≡◌, ℕ, ◌+◌, ◌-◌, ◌<◌, List, length, take, set, arith}
use Rattle.std.proofs.lemmas.List.{length-set, drop-drop, drop-set-lt, drop-replicate}
use Rattle.sheet.specs.Few.{IsStored, told_len}
use Rattle.sheet.proofs.few.Few.push.Goals as goal

stored_more : {T : Type 0} {capacity : ℕ} {blank : T} {places : List T} {len : ℕ} → IsStored capacity blank places len
    → (x : T) → length (take len places) < capacity → IsStored capacity blank (set places len x) (len + 1)
stored_more {T} {capacity} {blank} {places} {len} stored x h =
    let room : len < capacity = omega (arith, told_len stored) in
    let left : capacity - len - 1 ≡ capacity - (len + 1) = omega arith in record {
      fits = omega arith;
      size = rw (length-set places len x) stored.size;
      blanks = rw (drop-set-lt (len + 1) places len x (omega arith), ← drop-drop 1 len places, stored.blanks, drop-replicate 1 (capacity - len) blank, left);
    }

pub invariant_of-self : goal.invariant_of-self
invariant_of-self g c = stored_more c.self.invariant c.args.item (rw (← c.self.view_is) at c.requires)
