-- The values of both sheets are put one after the other. Assumes nothing.
use mathlib.Core.Path.{refl}
use Prim.Native.Nat.{◌+◌, ◌*◌, ◌≤◌}
use native.Mathlib.Omega.{arith}
use Rattle.meaning.specs.Numbers.{max_signals}
use Rattle.yellopard.proofs.Polarity.{still, pair_alike, laid}
use Rattle.yellopard.proofs.files.pair_of.Goals as goal

pub returns : goal.returns
returns c =
    let few : c.len-first.result + c.len-second.result ≤ 2 * max_signals = omega (arith, c.len-first.ensures.fits, c.len-second.ensures.fits) in
    let in_a = still c.args.a _ c.values-in_a.result c.initial.ensures c.values-in_a.ensures in
    let in_b = still c.args.b _ c.values-in_b.result c.initial-2.ensures c.values-in_b.ensures in
    let put = laid _ _ _ _ _ _ _ few
    (omega (arith, c.len-first.ensures.fits, c.values-in_a.type_inv)) (omega (arith, c.len-second.ensures.fits, c.values-in_b.type_inv))
    c.put_bytes.ensures c.put_bytes-2.ensures in (
      pair_alike _ _ c.requires _ _ in_a in_b _
          (λ v l. put.0 v (omega (arith, c.len-first.ensures.value)))
          (λ v l. rw (← c.len-first.ensures.value) (put.1 v (omega (arith, c.len-second.ensures.value))))
          put.2,
      refl,
      refl,
    )
