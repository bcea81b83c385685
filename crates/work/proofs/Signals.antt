-- One signal of a pass: what its call of the table is asked, and which tree the call makes. Assumes nothing.
use Rattle.std.specs.Prelude.{Result, Ok}
use denote.Ref.{Bor}
use mathlib.Core.Path.{◌≡◌, refl, sym, ap, ap₂, subst, ◌∙◌}
use mathlib.Core.List.{List}
use Prim.Native.Nat.{ℕ, ◌+◌, ◌<◌, ◌≤◌}
use native.Mathlib.Omega.{arith}
use lib.ListN.{length, get_or}
use lib.Dec.{eqb}
use Rattle.meaning.specs.Sheet as paper
use Rattle.meaning.specs.Tick.{gate_value}
use Rattle.tree.specs.Tree.{Tree, leaf, glue, complement_tree}
use Rattle.lists.specs.Recipes.{made}
use Rattle.sheet.specs.declared.kind.Kind.TheVariants.{Input, Register, Not, And, Or, Xor}
use Rattle.sheet.specs.declared.Signal.{Signal}
use Rattle.sheet.specs.Stored.{signal_of}
use Rattle.sheet.proofs.Right.{signal_input, signal_register, signal_inverter, signal_and, signal_or, signal_xor}
use Rattle.diagram.specs.declared.Full.{Full}
use Rattle.diagram.specs.declared.Head.{Head}
use Rattle.diagram.specs.declared.Op.{Op}
use Rattle.diagram.specs.declared.Op.TheVariants as op
use Rattle.diagram.specs.Operation.{op_of}
use Rattle.diagram.specs.Table.{tree_at, glued, combined}
use Rattle.diagram.specs.Contract.{Has, Gives, Ready, MakeAsks}
use Rattle.diagram.proofs.Trees.{tree-constant, height-constant}
use Rattle.diagram.proofs.Grown.{has_there}
use Rattle.fill.specs.Trees.{trees_at}
use Rattle.work.specs.declared.pass.Moment.{Moment}
use Rattle.work.specs.declared.pass.Moment.TheVariants.{Start, Now, Next}
use Rattle.work.specs.declared.pass.Pass.{Pass}
use Rattle.work.specs.Passes.{variable_at, register_in, signal_in, Operand, RegisterAsks, GateAsks, GateSays, SignalAsks}

gives_same : (w : List ℕ) (a : Head) (u : List ℕ) (b : Head) (z : Result ℕ Full) {t t' : Tree} → t ≡ t' → Gives w a t u b z → Gives w a t' u b z
gives_same w a u b z e s = subst (λ (t : Tree). Gives w a t u b z) e s

-- ## A variable is made over the constants

variable_asks : (w : List ℕ) (a : Head) (v : ℕ) → Ready w a → 0 < v → v < 65536 → MakeAsks w a v 0 1
variable_asks w a v ready some small = record {
  ready = ready;
  tall = small;
  low = omega arith;
  high = omega arith;
  lows = omega (arith, height-constant w a.used 0 (omega arith));
  highs = omega (arith, height-constant w a.used 1 (omega arith));
}

variable_made : (w : List ℕ) (n v : ℕ) → glued w n v 0 1 ≡ variable_at v
variable_made w n v = ap₂ (glue v) (tree-constant w n 0 (omega arith)) (tree-constant w n 1 (omega arith))

-- ## A register

module _ (p : Pass) (x : Signal) (w : List ℕ) (a : Head) (ready : Ready w a) (asks : RegisterAsks p.moment p x w a.used) where
  abbrev register_now : Moment → Tree
  register_now t = register_in t p (trees_at w a.used) (eqb x.a 1) x.b

  asks_at : (t : Moment) → p.moment ≡ t → RegisterAsks t p x w a.used
  asks_at t e = subst (λ (m : Moment). RegisterAsks m p x w a.used) e asks

  gives_at : (t : Moment) → p.moment ≡ t → (u : List ℕ) (b : Head) (z : Result ℕ Full) → Gives w a (register_now t) u b z → Gives w a (register_now p.moment) u b z
  gives_at t e u b z s = subst (λ (m : Moment). Gives w a (register_now m) u b z) (sym e) s

  register-start : p.moment ≡ Start → Gives w a (register_now p.moment) w a (Ok x.a)
  unfolding Gives register_in RegisterAsks
  register-start e =
      let q : x.a ≤ 1 = asks_at Start e in
      let h : Has w a (leaf (eqb x.a 1)) w a x.a = has_there w a _ x.a ready (omega arith) (tree-constant w a.used x.a (omega arith)) in
      gives_at Start e w a (Ok x.a) h

  register-now_asks : p.moment ≡ Now → MakeAsks w a p.register 0 1
  unfolding RegisterAsks
  register-now_asks e = let q : (0 < p.register) × (p.register < 65536) = asks_at Now e in variable_asks w a p.register ready q.0 q.1

  register-now : p.moment ≡ Now → (u : List ℕ) (b : Head) (z : Result ℕ Full) → Gives w a (glued w a.used p.register 0 1) u b z → Gives w a (register_now p.moment) u b z
  unfolding register_in
  register-now e u b z s = gives_at Now e u b z (gives_same w a u b z (variable_made w a.used p.register) s)

  module _ (now : Bor (List ℕ)) (e : p.moment ≡ Next now) where
    source : Operand p w a.used now.now x.b
    unfolding RegisterAsks
    source = asks_at (Next now) e

    register-next : (r : ℕ) → r ≡ get_or now.now (p.before + x.b) 0 → Gives w a (register_now p.moment) w a (Ok r)
    unfolding Gives register_in trees_at
    register-next r er =
        let l : r < a.used + 2 = rw er source.under.id in
        let h : Has w a (tree_at w a.used (get_or now.now (p.before + x.b) 0)) w a r = has_there w a _ r ready l (ap (tree_at w a.used) er) in
        gives_at (Next now) e w a (Ok r) h

-- ## A gate

module _ {p : Pass} {x : Signal} {w : List ℕ} {a : Head} {own : List ℕ} (asks : GateAsks p x w a own)
    {i j : ℕ} (ei : i ≡ get_or own (p.before + x.a) 0) (ej : j ≡ get_or own (p.before + x.b) 0) where
  pub gate_says : (op : Op) (u : List ℕ) (b : Head) (z : Result ℕ Full) → Gives w a (combined w a.used (op_of op) i j) u b z → GateSays p op x w a own u b z
  unfolding trees_at
  gate_says op u b z s = gives_same w a u b z (rw (ei, ej)) s

-- ## A signal by its kind

module _ {p : Pass} {x : Signal} {w : List ℕ} {a : Head} {own : List ℕ} (asks : SignalAsks p x w a own) where
  abbrev signal_now : Tree
  signal_now = signal_in p (trees_at w a.used) own x

  pub input_asks : x.kind ≡ Input → MakeAsks w a p.input 0 1
  input_asks e = let q = asks.input e in variable_asks w a p.input asks.ready q.0 q.1

  pub input_says : x.kind ≡ Input → (u : List ℕ) (b : Head) (z : Result ℕ Full) → Gives w a (glued w a.used p.input 0 1) u b z → Gives w a signal_now u b z
  unfolding signal_in made
  input_says e u b z s = gives_same w a u b z (variable_made w a.used p.input ∙ rw (signal_input x e)) s

  module _ (k : x.kind ≡ Register) where
    of_register : (u : List ℕ) (b : Head) (z : Result ℕ Full) → Gives w a (register_in p.moment p (trees_at w a.used) (eqb x.a 1) x.b) u b z → Gives w a signal_now u b z
    unfolding signal_in made
    of_register u b z s = gives_same w a u b z (rw (signal_register x k)) s

    pub start_says : p.moment ≡ Start → (r : ℕ) → r ≡ x.a → Gives w a signal_now w a (Ok r)
    start_says e r er = rw er (of_register w a _ (register-start p x w a asks.ready (asks.register k) e))

    pub now_asks : p.moment ≡ Now → MakeAsks w a p.register 0 1
    now_asks e = register-now_asks p x w a asks.ready (asks.register k) e

    pub now_says : p.moment ≡ Now → (u : List ℕ) (b : Head) (z : Result ℕ Full) → Gives w a (glued w a.used p.register 0 1) u b z → Gives w a signal_now u b z
    now_says e u b z s = of_register u b z (register-now p x w a asks.ready (asks.register k) e u b z s)

    module _ (now : Bor (List ℕ)) (e : p.moment ≡ Next now) where
      pub next_asks : p.before + x.b < length now.now
      next_asks = (source p x w a asks.ready (asks.register k) now e).place

      pub next_says : (r : ℕ) → r ≡ get_or now.now (p.before + x.b) 0 → Gives w a signal_now w a (Ok r)
      next_says r er = of_register w a _ (register-next p x w a asks.ready (asks.register k) now e r er)

  module _ (k : x.kind ≡ Not) where
    module _ {i : ℕ} (ei : i ≡ get_or own (p.before + x.a) 0) where
      pub inverter_says : (u : List ℕ) (b : Head) (z : Result ℕ Full) → Gives w a (complement_tree (tree_at w a.used i)) u b z → Gives w a signal_now u b z
      unfolding signal_in made trees_at
      inverter_says u b z s = gives_same w a u b z (rw (ei, signal_inverter x k)) s

  -- an operation is that of a gate whose kind it is
  module _ (u : List ℕ) (b : Head) (z : Result ℕ Full) where
    kind_says : (op : Op) (g : paper.Gate) → signal_of x ≡ paper.gate g x.a x.b → op_of op ≡ gate_value g → GateSays p op x w a own u b z → Gives w a signal_now u b z
    unfolding signal_in made
    kind_says op g e o s = gives_same w a u b z (rw (e, o)) s

    pub and_says : x.kind ≡ And → GateSays p op.And x w a own u b z → Gives w a signal_now u b z
    unfolding op_of gate_value
    and_says k s = kind_says op.And paper.and (signal_and x k) refl s

    pub or_says : x.kind ≡ Or → GateSays p op.Or x w a own u b z → Gives w a signal_now u b z
    unfolding op_of gate_value
    or_says k s = kind_says op.Or paper.or (signal_or x k) refl s

    pub xor_says : x.kind ≡ Xor → GateSays p op.Xor x w a own u b z → Gives w a signal_now u b z
    unfolding op_of gate_value
    xor_says k s = kind_says op.Xor paper.xor (signal_xor x k) refl s
