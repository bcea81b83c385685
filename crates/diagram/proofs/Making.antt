-- What making a node does to a table in order. Assumes nothing.
use mathlib.Core.Path.{◌≡◌, sym, ap, ◌∙◌}
use mathlib.Core.List.{List}
use mathlib.Core.Logic.{◌⊎◌, ⊎_elim}
use Prim.Native.Nat.{ℕ, suc, ◌+◌, ◌<◌, ◌≤◌, max}
use native.Mathlib.Omega.{arith}
use native.Mathlib.Numerals.{add-one}
use native.Mathlib.Decide.{ℕ_discrete}
use native.Mathlib.Nat.{eq-or-lt_of_le}
use Rattle.tree.specs.Tree.{node, Reduced, whole}
use Rattle.tree.proofs.Glue.{glue_same, glue_apart, node_inner}
use Rattle.diagram.specs.declared.Head.{Head}
use Rattle.diagram.specs.declared.Op.{Op}
use Rattle.diagram.specs.Words.{HEIGHT, LOW, HIGH, NEXT, BUCKET, OPERATION, LEFT, RIGHT, RESULT, STAMP, at, room_of}
use Rattle.diagram.specs.Table.{bucket_of, home_of, key_of, tree_at, glued, added, Home, On, here, there, Cached, Good}
use Rattle.diagram.specs.Contract.{MakeAsks, Has, Lacks}
use Rattle.diagram.proofs.Trees.{tree-node, inner_id}
use Rattle.diagram.proofs.Chain.{on_frame}
use Rattle.diagram.proofs.Added.{bucket_lt, bucket_room, added-room, added_rest, added_old, added_buckets, added-height, added_low, added_high, added_next, added_bucket, added-tree, added_keeps, added_cache}
use Rattle.diagram.proofs.Frame.{home_same, stamped_same}
use Rattle.diagram.proofs.Grown.{grown_none, has_there, tally_none, tally_one}

last_or_old : (i n : ℕ) → i < suc n → (i ≡ n) ⊎ (i < n)
last_or_old i n h = eq-or-lt_of_le (omega arith)

-- ## The table with the node added is in order

module _ (w : List ℕ) (n v l h : ℕ) (g : Good w n) (lt : n < room_of w) where
  added-first : (b : ℕ) → b < room_of (added w n v l h) → at (added w n v l h) b BUCKET < suc n + 2
  added-first b lb = elim (ℕ_discrete b (bucket_of w v l h)) [
    | yes q ↦ omega (arith, ap (λ (k : ℕ). at (added w n v l h) k BUCKET) q ∙ added_bucket w n v l h lt)
    | no q ↦ omega (arith, added_buckets w n v l h b q, g.first b (omega (arith, added-room w n v l h)))
  ]

  added_home : (i : ℕ) → (i ≡ n → ⊥) → home_of (added w n v l h) i ≡ home_of w i
  added_home i ne = home_same w (added w n v l h) (added-room w n v l h) i (λ k lk. added_old w n v l h i k ne (omega arith))

  added_home_new : (i : ℕ) → i ≡ n → home_of (added w n v l h) i ≡ bucket_of w v l h
  added_home_new i e = rw (e, added-height w n v l h lt, added_low w n v l h lt, added_high w n v l h lt) (bucket_room w (added w n v l h) v l h (added-room w n v l h))

  added_chained : (i : ℕ) → i < suc n → On (added w n v l h) i (at (added w n v l h) (home_of (added w n v l h) i) BUCKET)
  added_chained i li =
      let u : List ℕ = added w n v l h in
      let b : ℕ = bucket_of w v l h in
      ⊎_elim
      (λ e. here (ap (λ (k : ℕ). at u k BUCKET) (added_home_new i e) ∙ added_bucket w n v l h lt ∙ ap (λ (k : ℕ). k + 2) (sym e)))
      (λ old.
      let j : ℕ = home_of w i in
      let lj : j < room_of w = bucket_lt w _ _ _ (omega arith) in
      let o : On u i (at w j BUCKET) = on_frame u n (λ k lk. added_old w n v l h k NEXT (omega arith) (omega arith)) g.next (g.chained i old) (g.first j lj) in
      let same : j ≡ b → On u i (at u j BUCKET) = λ q.
      let e4 : at u j BUCKET ≡ n + 2 = ap (λ (k : ℕ). at u k BUCKET) q ∙ added_bucket w n v l h lt in
      let e3 : at w j BUCKET ≡ at u n NEXT = ap (λ (k : ℕ). at w k BUCKET) q ∙ sym (added_next w n v l h lt) in
      there n e4 (rw e3 at o) in
      let other : (j ≡ b → ⊥) → On u i (at u j BUCKET) = λ q. rw (added_buckets w n v l h j q) o in
      let r : On u i (at u j BUCKET) = elim (ℕ_discrete j b) [ yes q ↦ same q | no q ↦ other q ] in
      rw (added_home i (omega arith)) r)
      (last_or_old i n li)

  added-first_home : (b : ℕ) → b < room_of (added w n v l h) → Home (added w n v l h) b (at (added w n v l h) b BUCKET)
  added-first_home b lb i e = elim (ℕ_discrete b (bucket_of w v l h)) [
    | yes q ↦ added_home_new i (omega (arith, ap (λ (k : ℕ). at (added w n v l h) k BUCKET) q ∙ added_bucket w n v l h lt)) ∙ sym q
    | no q ↦
        let old : at w b BUCKET ≡ i + 2 = sym (added_buckets w n v l h b q) ∙ e in
        let in_table : b < room_of w = omega (arith, added-room w n v l h) in
        added_home i (omega (arith, g.first b in_table)) ∙ g.first_home b in_table i old
  ]

  added-next_home : (j : ℕ) → j < suc n → Home (added w n v l h) (home_of (added w n v l h) j) (at (added w n v l h) j NEXT)
  added-next_home j lj i e = ⊎_elim
      (λ last.
      let b : ℕ = bucket_of w v l h in
      let in_table : b < room_of w = bucket_lt w v l h (omega arith) in
      let old : at w b BUCKET ≡ i + 2 = sym (ap (λ (k : ℕ). at (added w n v l h) k NEXT) last ∙ added_next w n v l h lt) ∙ e in
      added_home i (omega (arith, g.first b in_table)) ∙ g.first_home b in_table i old ∙ sym (added_home_new j last))
      (λ lt-n.
      let old : at w j NEXT ≡ i + 2 = sym (added_old w n v l h j NEXT (omega arith) (omega arith)) ∙ e in
      added_home i (omega (arith, g.next j lt-n)) ∙ g.next_home j lt-n i old ∙ sym (added_home j (omega arith)))
      (last_or_old j n lj)

-- ## The cache

module _ (w : List ℕ) (n v l h : ℕ) (g : Good w n) where
  added_cached : (i : ℕ) → i < room_of (added w n v l h) → (op : Op) → at (added w n v l h) i OPERATION ≡ key_of (added w n v l h) op → Cached (added w n v l h) (suc n) i op
  added_cached i li op used =
      let u : List ℕ = added w n v l h in
      let e5 : at u i OPERATION ≡ at w i OPERATION = added_cache w n v l h i OPERATION (omega arith) (omega arith) in
      let e6 : at u i LEFT ≡ at w i LEFT = added_cache w n v l h i LEFT (omega arith) (omega arith) in
      let e7 : at u i RIGHT ≡ at w i RIGHT = added_cache w n v l h i RIGHT (omega arith) (omega arith) in
      let e8 : at u i RESULT ≡ at w i RESULT = added_cache w n v l h i RESULT (omega arith) (omega arith) in
      let e9 : at u 0 STAMP ≡ at w 0 STAMP = added_cache w n v l h 0 STAMP (omega arith) (omega arith) in
      let k : Cached w n i op = g.cached i (omega (arith, added-room w n v l h)) op (omega arith) in
      let t6 = added_keeps w n v l h (at w i LEFT) k.left in
      let t7 = added_keeps w n v l h (at w i RIGHT) k.right in
      let t8 = added_keeps w n v l h (at w i RESULT) k.means.id in
      record {
        left = omega (arith, e6, k.left);
        right = omega (arith, e7, k.right);
        means = record { id = omega (arith, e8, k.means.id); is = rw (e6, e7, e8, t6, t7, t8) k.means.is };
      }

-- ## The four ways a node is made

module _ (w : List ℕ) (a : Head) (v l h : ℕ) (ask : MakeAsks w a v l h) where
  pub make_same : l ≡ h → Has w a (glued w a.used v l h) w a l
  make_same e = has_there w a _ l ask.ready ask.low (sym (glue_same v _ _ (ap (tree_at w a.used) e)))

  module _ (apart : l ≡ h → ⊥) where
    branches_apart : tree_at w a.used l ≡ tree_at w a.used h → ⊥
    branches_apart e = apart (ask.ready.good.once l h ask.low ask.high e)

    is_node : glued w a.used v l h ≡ node v (tree_at w a.used l) (tree_at w a.used h)
    is_node = glue_apart v _ _ branches_apart

    pub make_found : (r : ℕ) → r < a.used + 2 → tree_at w a.used r ≡ node v (tree_at w a.used l) (tree_at w a.used h) → Has w a (glued w a.used v l h) w a r
    make_found r lr e = has_there w a _ r ask.ready lr (e ∙ sym is_node)

    module _ (absent : (i : ℕ) → i < a.used → at w i HEIGHT ≡ v → at w i LOW ≡ l → at w i HIGH ≡ h → ⊥) where
      -- no id has the tree
      nowhere : (x : ℕ) → x < a.used + 2 → tree_at w a.used x ≡ node v (tree_at w a.used l) (tree_at w a.used h) → ⊥
      nowhere x lx e =
          let g = ask.ready.good in
          let p = inner_id w a.used _ (node_inner v _ _) x lx e in
          let i : ℕ = p.0 in
          let t : node (at w i HEIGHT) (tree_at w a.used (at w i LOW)) (tree_at w a.used (at w i HIGH)) ≡ node v (tree_at w a.used l) (tree_at w a.used h)
          = sym (tree-node w a.used i g p.1) ∙ p.2 in
          let ev : at w i HEIGHT ≡ v = cc in
          let el : tree_at w a.used (at w i LOW) ≡ tree_at w a.used l = cc in
          let eh : tree_at w a.used (at w i HIGH) ≡ tree_at w a.used h = cc in
          absent i p.1 ev
          (g.once (at w i LOW) l (omega (arith, g.low i p.1, p.1)) ask.low el)
          (g.once (at w i HIGH) h (omega (arith, g.high i p.1, p.1)) ask.high eh)

      pub make_full : a.used ≡ room_of w → Lacks w a (glued w a.used v l h) w a
      make_full e = record {
        grown = grown_none w a.used _ ask.ready.good;
        tally = tally_none a ask.ready.tallied;
        full = e;
        part = node v (tree_at w a.used l) (tree_at w a.used h);
        of = rw is_node whole;
        none = nowhere;
      }

      module _ (lt : a.used < room_of w) where
        added_reduced : (x : ℕ) → x < suc a.used + 2 → Reduced (tree_at (added w a.used v l h) (suc a.used) x)
        unfolding Reduced
        added_reduced x lx = ⊎_elim
            (λ e. let last : x ≡ a.used + 2 = e in rw (last, added-tree w a.used v l h lt)
            (branches_apart, ask.lows, ask.highs, ask.ready.good.reduced l ask.low, ask.ready.good.reduced h ask.high))
            (λ old. rw (added_keeps w a.used v l h x old) (ask.ready.good.reduced x old))
            (last_or_old x (a.used + 2) (omega arith))

        added_once : (x y : ℕ) → x < suc a.used + 2 → y < suc a.used + 2
            → tree_at (added w a.used v l h) (suc a.used) x ≡ tree_at (added w a.used v l h) (suc a.used) y → x ≡ y
        added_once x y lx ly e =
            let new : tree_at (added w a.used v l h) (suc a.used) (a.used + 2) ≡ node v (tree_at w a.used l) (tree_at w a.used h) = added-tree w a.used v l h lt in
            ⊎_elim
            (λ ex. ⊎_elim
            (λ ey. ex ∙ sym ey)
            (λ oy. let k = added_keeps w a.used v l h y oy in absurd (nowhere y oy (cc)))
            (last_or_old y (a.used + 2) (omega arith)))
            (λ ox. ⊎_elim
            (λ ey. let k = added_keeps w a.used v l h x ox in absurd (nowhere x ox (cc)))
            (λ oy. ask.ready.good.once x y ox oy (sym (added_keeps w a.used v l h x ox) ∙ e ∙ added_keeps w a.used v l h y oy))
            (last_or_old y (a.used + 2) (omega arith)))
            (last_or_old x (a.used + 2) (omega arith))

        added-branch : (k c : ℕ) → at (added w a.used v l h) a.used k ≡ c → c < a.used + 2 → k ≤ NEXT → ((i : ℕ) → i < a.used → at w i k < i + 2)
            → (i : ℕ) → i < suc a.used → at (added w a.used v l h) i k < i + 2
        added-branch k c e lc lk old i li = ⊎_elim
            (λ q. omega (arith, ap (λ (j : ℕ). at (added w a.used v l h) j k) q ∙ e))
            (λ o. omega (arith, added_old w a.used v l h i k (omega arith) lk, old i o))
            (last_or_old i a.used li)

        added_good : Good (added w a.used v l h) (suc a.used)
        added_good =
            let g = ask.ready.good in
            record {
              fits = omega (arith, added-room w a.used v l h);
              low = added-branch LOW l (added_low w a.used v l h lt) ask.low (omega arith) g.low;
              high = added-branch HIGH h (added_high w a.used v l h lt) ask.high (omega arith) g.high;
              reduced = added_reduced;
              once = added_once;
              next = added-branch NEXT _ (added_next w a.used v l h lt) (g.first _ (bucket_lt w v l h (omega arith))) (omega arith) g.next;
              first = added-first w a.used v l h g lt;
              chained = added_chained w a.used v l h g lt;
              first_home = added-first_home w a.used v l h g lt;
              next_home = added-next_home w a.used v l h g lt;
              stamped = stamped_same w (added w a.used v l h) (added-room w a.used v l h) (added_cache w a.used v l h) g.stamped;
              cached = added_cached w a.used v l h g;
            }

        pub make_added : (b : Head) → b.used ≡ a.used + 1 → b.most ≡ max a.most (a.used + 1) → Has w a (glued w a.used v l h) (added w a.used v l h) b (a.used + 2)
        make_added b u m =
            let one : b.used ≡ suc a.used = u ∙ add-one a.used in
            record {
              grown = rw one (record {
                good = added_good;
                keeps = record { more = omega arith; same = added_keeps w a.used v l h };
                room = added-room w a.used v l h;
                rest = added_rest w a.used v l h lt;
                new = λ x lo hi. let e : x ≡ a.used + 2 = omega arith in rw (e, added-tree w a.used v l h lt, is_node) whole;
              });
              tally = tally_one a b ask.ready.tallied u m;
              id = omega arith;
              is = rw one (added-tree w a.used v l h lt ∙ sym is_node);
            }
