-- The cache: a result put in it leaves a table in order, and what is found in it is true. Assumes nothing.
use mathlib.Core.Path.{◌≡◌, sym, ap, ap₂, ◌∙◌}
use mathlib.Core.List.{List}
use Prim.Native.Nat.{ℕ, ◌+◌, ◌<◌, ◌≤◌}
use native.Mathlib.Omega.{arith}
use native.Mathlib.Decide.{ℕ_discrete}
use Rattle.meaning.specs.Numbers.{node_words}
use Rattle.tree.specs.Tree.{combine_tree}
use Rattle.diagram.specs.declared.Head.{Head}
use Rattle.diagram.specs.declared.Op.{Op}
use Rattle.diagram.specs.Operation.{op_of, stamps}
use Rattle.diagram.specs.Words.{BUCKET, OPERATION, LEFT, RIGHT, RESULT, STAMP, at, room_of, rest_of, stamp_of}
use Rattle.diagram.specs.Table.{key_of, tree_at, combined, noted, Means, Stamped, Cached, Good}
use Rattle.diagram.specs.Contract.{Has, Ready}
use Rattle.diagram.proofs.Stores.{at_same, at-node, at_word, room_store, room_small, rest_store}
use Rattle.diagram.proofs.Trees.{tree_frame}
use Rattle.diagram.proofs.Codes.{code_small, code_inj}
use Rattle.diagram.proofs.Frame.{cache_good}

-- ## The words

module _ (w : List ℕ) (slot : ℕ) (op : Op) (a b r : ℕ) where
  noted-room : room_of (noted w slot op a b r) ≡ room_of w
  unfolding noted
  noted-room = simp room_store

  -- the nodes' own words and the buckets
  noted-node : (i k : ℕ) → k ≤ BUCKET → at (noted w slot op a b r) i k ≡ at w i k
  unfolding noted
  noted-node i k lk =
      let small : k < node_words = omega arith in
      at_word _ _ RESULT _ i k (omega arith) small (omega arith)
      ∙ at_word _ _ RIGHT _ i k (omega arith) small (omega arith)
      ∙ at_word _ _ LEFT _ i k (omega arith) small (omega arith)
      ∙ at_word _ _ OPERATION _ i k (omega arith) small (omega arith)

  noted_stamp : at (noted w slot op a b r) 0 STAMP ≡ at w 0 STAMP
  unfolding noted
  noted_stamp =
      at_word _ _ RESULT _ 0 STAMP (omega arith) (omega arith) (omega arith)
      ∙ at_word _ _ RIGHT _ 0 STAMP (omega arith) (omega arith) (omega arith)
      ∙ at_word _ _ LEFT _ 0 STAMP (omega arith) (omega arith) (omega arith)
      ∙ at_word _ _ OPERATION _ 0 STAMP (omega arith) (omega arith) (omega arith)

  -- another slot
  noted_other : (i k : ℕ) → k < node_words → (i ≡ slot → ⊥) → at (noted w slot op a b r) i k ≡ at w i k
  unfolding noted
  noted_other i k small ne =
      at-node _ _ RESULT _ i k (omega arith) small ne
      ∙ at-node _ _ RIGHT _ i k (omega arith) small ne
      ∙ at-node _ _ LEFT _ i k (omega arith) small ne
      ∙ at-node _ _ OPERATION _ i k (omega arith) small ne

  noted-tree : (n x : ℕ) → tree_at (noted w slot op a b r) n x ≡ tree_at w n x
  noted-tree n x = tree_frame w (noted w slot op a b r) n x (λ i k li lk. noted-node i k (omega arith))

  module _ (in_table : slot < room_of w) where
    noted_rest : rest_of (noted w slot op a b r) ≡ rest_of w
    unfolding noted
    noted_rest =
        rest_store _ _ RESULT _ (simp room_store in_table) (omega arith)
        ∙ rest_store _ _ RIGHT _ (simp room_store in_table) (omega arith)
        ∙ rest_store _ _ LEFT _ (simp room_store in_table) (omega arith)
        ∙ rest_store _ _ OPERATION _ in_table (omega arith)

    noted_operation : at (noted w slot op a b r) slot OPERATION ≡ key_of w op
    unfolding noted
    noted_operation =
        at_word _ _ RESULT _ _ OPERATION (omega arith) (omega arith) (omega arith)
        ∙ at_word _ _ RIGHT _ _ OPERATION (omega arith) (omega arith) (omega arith)
        ∙ at_word _ _ LEFT _ _ OPERATION (omega arith) (omega arith) (omega arith)
        ∙ at_same _ _ OPERATION _ in_table (omega arith)

    noted-left : at (noted w slot op a b r) slot LEFT ≡ a
    unfolding noted
    noted-left =
        at_word _ _ RESULT _ _ LEFT (omega arith) (omega arith) (omega arith)
        ∙ at_word _ _ RIGHT _ _ LEFT (omega arith) (omega arith) (omega arith)
        ∙ at_same _ _ LEFT _ (simp room_store in_table) (omega arith)

    noted-right : at (noted w slot op a b r) slot RIGHT ≡ b
    unfolding noted
    noted-right =
        at_word _ _ RESULT _ _ RIGHT (omega arith) (omega arith) (omega arith)
        ∙ at_same _ _ RIGHT _ (simp room_store in_table) (omega arith)

    noted_result : at (noted w slot op a b r) slot RESULT ≡ r
    unfolding noted
    noted_result = at_same _ _ RESULT _ (simp room_store in_table) (omega arith)

    -- ## The table stays in order

    module _ (n : ℕ) (g : Good w n) (la : a < n + 2) (lb : b < n + 2) (m : Means w n (op_of op) a b r) where
      noted_same : (i : ℕ) → i ≡ slot → (p : Op) → at (noted w slot op a b r) i OPERATION ≡ key_of (noted w slot op a b r) p → Cached (noted w slot op a b r) n i p
      noted_same i q p used =
          let u : List ℕ = noted w slot op a b r in
          let t = noted-tree n in
          let e5 : at u i OPERATION ≡ key_of w op = ap (λ (j : ℕ). at u j OPERATION) q ∙ noted_operation in
          let e6 : at u i LEFT ≡ a = ap (λ (j : ℕ). at u j LEFT) q ∙ noted-left in
          let e7 : at u i RIGHT ≡ b = ap (λ (j : ℕ). at u j RIGHT) q ∙ noted-right in
          let e8 : at u i RESULT ≡ r = ap (λ (j : ℕ). at u j RESULT) q ∙ noted_result in
          let o : p ≡ op = code_inj p op (omega (arith, noted_stamp)) in
          record { left = rw e6 la; right = rw e7 lb; means = record { id = rw e8 m.id; is = rw (e6, e7, e8, o, t r, t a, t b) m.is } }

      noted_else : (i : ℕ) → i < room_of w → (i ≡ slot → ⊥) → (p : Op) → at (noted w slot op a b r) i OPERATION ≡ key_of (noted w slot op a b r) p → Cached (noted w slot op a b r) n i p
      noted_else i li q p used =
          let u : List ℕ = noted w slot op a b r in
          let t = noted-tree n in
          let e5 : at u i OPERATION ≡ at w i OPERATION = noted_other i OPERATION (omega arith) q in
          let e6 : at u i LEFT ≡ at w i LEFT = noted_other i LEFT (omega arith) q in
          let e7 : at u i RIGHT ≡ at w i RIGHT = noted_other i RIGHT (omega arith) q in
          let e8 : at u i RESULT ≡ at w i RESULT = noted_other i RESULT (omega arith) q in
          let k : Cached w n i p = g.cached i li p (omega (arith, noted_stamp)) in
          record {
            left = rw e6 k.left;
            right = rw e7 k.right;
            means = record { id = rw e8 k.means.id; is = rw (e6, e7, e8, t (at w i LEFT), t (at w i RIGHT), t (at w i RESULT)) k.means.is };
          }

      noted_stamped : Stamped (noted w slot op a b r)
      noted_stamped =
          let same = noted_stamp in
          record {
            small = λ some. omega (arith, g.stamped.small (omega (arith, noted-room)));
            slots = λ i li. elim (ℕ_discrete i slot) [
              | yes q ↦ omega (arith, ap (λ (j : ℕ). at (noted w slot op a b r) j OPERATION) q ∙ noted_operation, code_small op)
              | no q ↦ omega (arith, noted_other i OPERATION (omega arith) q, g.stamped.slots i (omega (arith, noted-room)))
            ];
          }

      noted_good : Good (noted w slot op a b r) n
      noted_good = cache_good w (noted w slot op a b r) noted-room noted-node n g noted_stamped
          (λ i li. elim (ℕ_discrete i slot) [ yes q ↦ noted_same i q | no q ↦ noted_else i (omega (arith, noted-room)) q ])

-- ## What the functions need

-- a result stays the result once it is in the cache
module _ (w : List ℕ) (a : Head) (op : Op) (x y slot : ℕ) (u : List ℕ) (b : Head) (r : ℕ) (ready : Ready w a) (lx : x < a.used + 2) (ly : y < a.used + 2)
    (in_table : slot < room_of w) (k : Has w a (combined w a.used (op_of op) x y) u b r) where
  in_grown : slot < room_of u
  in_grown = omega (arith, in_table, k.grown.room)

  pub note_asks : (slot < room_of u) × (stamp_of u < stamps) × (x < 65536) × (y < 65536) × (r < 65536)
  note_asks =
      let fits = ready.good.fits in
      let small = room_small w in
      let in_u = in_grown in
      (in_u, k.grown.good.stamped.small (omega arith), omega arith, omega arith, omega (arith, k.id, k.grown.good.fits, room_small u))

  pub has_noted : Has w a (combined w a.used (op_of op) x y) (noted u slot op x y r) b r
  has_noted =
      let g = k.grown in
      let more = g.keeps.more in
      let true : tree_at u b.used r ≡ combined u b.used (op_of op) x y
      = k.is ∙ ap₂ (combine_tree (op_of op)) (sym (g.keeps.same x lx)) (sym (g.keeps.same y ly)) in
      record {
        grown = record {
          good = noted_good u slot op x y r in_grown b.used g.good (omega (arith, lx)) (omega (arith, ly)) (record { id = k.id; is = true });
          keeps = record { more = more; same = λ i li. noted-tree u slot op x y r b.used i ∙ g.keeps.same i li };
          room = noted-room u slot op x y r ∙ g.room;
          rest = noted_rest u slot op x y r in_grown ∙ g.rest;
          new = λ i lo hi. rw (noted-tree u slot op x y r b.used i) (g.new i lo hi);
        };
        tally = k.tally;
        id = k.id;
        is = noted-tree u slot op x y r b.used r ∙ k.is;
      }

-- what a slot of the cache is worth
pub recalled : (w : List ℕ) (n slot : ℕ) (op : Op) (a b x : ℕ) → Good w n → slot < room_of w
    → at w slot OPERATION ≡ key_of w op → at w slot LEFT ≡ a → at w slot RIGHT ≡ b → x ≡ at w slot RESULT → Means w n (op_of op) a b x
recalled w n slot op a b x g ls e5 e6 e7 e8 =
    let k : Cached w n slot op = g.cached slot ls op e5 in
    rw (e8, ← e6, ← e7) k.means
