-- Soundness: a signal correspondence that pairs the outputs makes the outputs equal at every tick. Assumes nothing.
use mathlib.Core.Path.{◌≡◌, refl, sym, ap₂, ◌∙◌}
use mathlib.Core.Bool.{Bool, true, false, beq}
use mathlib.Core.List.{List, [], ◌∷◌, map}
use Prim.Native.Nat.{ℕ, zero, suc, ◌<◌}
use native.Mathlib.Omega.{arith}
use lib.ListN.{length, get_or, take, drop, length-map}
use lib.Seq.{take_at, drop_at, ext_get_or}
use Rattle.meaning.specs.Basic.{bit}
use Rattle.meaning.specs.Sheet.{Output, Sheet}
use Rattle.meaning.specs.Tick.{values, initial, shown, outputs_from, outputs_of}
use Rattle.meaning.specs.Joint.{regsA, regs, ins, total, f, s0, after, polarity, h, outA, outB}
use Rattle.laws.proofs.Basic.{true_false}
use Rattle.promises.specs.Correspondence.{Sized, SameOutputs, StartEqual, Conforms, StepEqual, Start, Step, Correspondence, PairedOutputs}
use Rattle.promises.specs.Proper.{OutputsName}
use Rattle.promises.proofs.Ticks.{length-initial}
use Rattle.promises.proofs.Joint.{length-s0, length-after, after_A, after_B, f_A, f_B, bit-h}

-- two values normalised by one polarity are equal only if they were
beq_cancel : (p q a b : Bool) → p ≡ q → beq p a ≡ beq q b → a ≡ b
beq_cancel true true true true e h = refl
beq_cancel true true true false e h = h
beq_cancel true true false true e h = h
beq_cancel true true false false e h = refl
beq_cancel false false true true e h = refl
beq_cancel false false true false e h = sym h
beq_cancel false false false true e h = sym h
beq_cancel false false false false e h = refl
beq_cancel true false a b e h = true_false true refl e
beq_cancel false true a b e h = true_false false e refl

shown-at : (os : List Output) (vs : List Bool) (i : ℕ) → i < length os
    → get_or (shown os vs) i false ≡ bit vs (get_or (map (λ o. o.signal) os) i 0)
unfolding shown
shown-at [] vs i l = absurd (omega arith)
shown-at (o ∷ os) vs zero l = refl
shown-at (o ∷ os) vs (suc i) l = shown-at os vs i (omega arith)

length-shown : (os : List Output) (vs : List Bool) → length (shown os vs) ≡ length os
unfolding shown
length-shown os vs = length-map os _

module _ (A B : Sheet) (g : List ℕ) (corresponds : Correspondence A B g) (pairs : PairedOutputs A B g)
    (like : length A.outputs ≡ length B.outputs) (wA : OutputsName A) (wB : OutputsName B) where
  -- the classes agree at the start, and go on agreeing
  start_conforms : (x : List Bool) → length x ≡ ins A B → Conforms A B g (s0 A B) x
  unfolding Conforms Start StartEqual
  start_conforms x q u v t = corresponds.start u v t x q

  step_conforms : (s x y : List Bool) → length s ≡ regs A B → length x ≡ ins A B → length y ≡ ins A B
      → Conforms A B g s x → Conforms A B g (after A B s x) y
  unfolding Conforms Step StepEqual
  step_conforms s x y p q o a u v t = corresponds.step u v t s x y p q o a

  out_A : (i : ℕ) → i < length A.outputs → outA A B i < length A.signals
  unfolding OutputsName outA
  out_A i l = wA i l

  out_B : (i : ℕ) → i < length A.outputs → outB A B i < total A B
  unfolding OutputsName outB total
  out_B i l = omega (arith, wB i (omega arith))

  -- so the outputs are equal wherever the classes agree
  outputs_agree : (s x : List Bool) → Conforms A B g s x → (i : ℕ) → i < length A.outputs
      → bit (f A B s x) (outA A B i) ≡ bit (f A B s x) (outB A B i)
  unfolding Conforms PairedOutputs total
  outputs_agree s x a i l =
      let u = outA A B i in
      let v = outB A B i in
      let p = pairs i l in
      let lu : u < total A B = omega (arith, out_A i l) in
      let hs : bit (h A B s x) u ≡ bit (h A B s x) v = a u v (record { left = lu; right = out_B i l; classes = p.classes }) in
      beq_cancel (bit (polarity A B) u) (bit (polarity A B) v) _ _ p.polarities (sym (bit-h A B s x u lu) ∙ hs ∙ bit-h A B s x v (out_B i l))

  shown_agree : (s x : List Bool) → Conforms A B g s x
      → shown A.outputs (values A.signals (take (regsA A B) s) x) ≡ shown B.outputs (values B.signals (drop (regsA A B) s) x)
  unfolding outA outB
  shown_agree s x a =
      let vA = values A.signals (take (regsA A B) s) x in
      let vB = values B.signals (drop (regsA A B) s) x in
      ext_get_or false _ _ (length-shown A.outputs vA ∙ like ∙ sym (length-shown B.outputs vB))
      (λ i l.
      let lA : i < length A.outputs = omega (arith, length-shown A.outputs vA) in
      let lB : i < length B.outputs = omega arith in
      shown-at A.outputs vA i lA
      ∙ sym (f_A A B s x (outA A B i) (out_A i lA))
      ∙ outputs_agree s x a i lA
      ∙ f_B A B s x _
      ∙ sym (shown-at B.outputs vB i lB))

  same_from : (xs : List (List Bool)) → Sized (ins A B) xs → (s : List Bool) → length s ≡ regs A B
      → ((x : List Bool) → length x ≡ ins A B → Conforms A B g s x)
      → outputs_from A (take (regsA A B) s) xs ≡ outputs_from B (drop (regsA A B) s) xs
  unfolding outputs_from
  same_from [] z s p a = refl
  same_from (x ∷ xs) z s p a =
      let next = same_from xs z.1 (after A B s x) (length-after A B s x) (λ y o. step_conforms s x y p z.0 o (a x z.0)) in
      ap₂ ◌∷◌ (shown_agree s x (a x z.0)) (rw (after_A A B s x, after_B A B s x) at next)

  -- the same outputs at every tick, whatever the inputs are
  pub same_outputs : SameOutputs A B
  unfolding SameOutputs outputs_of s0 regsA ins
  same_outputs xs z =
      rw (
        take_at (initial A.signals) (initial B.signals) _ (length-initial A.signals),
        drop_at (initial A.signals) (initial B.signals) _ (length-initial A.signals),
      )
      at (same_from xs z (s0 A B) (length-s0 A B) start_conforms)
