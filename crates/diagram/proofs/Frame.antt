-- What of a table's order stays where its words do. Assumes nothing.
use mathlib.Core.Path.{◌≡◌, sym, ◌∙◌}
use mathlib.Core.List.{List}
use Prim.Native.Nat.{ℕ, ◌<◌, ◌≤◌}
use native.Mathlib.Omega.{arith}
use Rattle.meaning.specs.Numbers.{node_words}
use Rattle.diagram.specs.declared.Op.{Op}
use Rattle.diagram.specs.Words.{HEIGHT, LOW, HIGH, NEXT, BUCKET, OPERATION, STAMP, at, room_of}
use Rattle.diagram.specs.Table.{home_of, key_of, tree_at, On, Stamped, Cached, Good}
use Rattle.diagram.proofs.Trees.{tree_frame}
use Rattle.diagram.proofs.Chain.{on_frame}
use Rattle.diagram.proofs.Added.{bucket_lt, bucket_room}

module _ (w u : List ℕ) (room : room_of u ≡ room_of w) where
  -- a node with the same words has the same bucket
  pub home_same : (i : ℕ) → ((k : ℕ) → k ≤ HIGH → at u i k ≡ at w i k) → home_of u i ≡ home_of w i
  home_same i f =
      let e0 = f HEIGHT (omega arith) in
      let e1 = f LOW (omega arith) in
      let e2 = f HIGH (omega arith) in
      rw (e0, e1, e2) (bucket_room w u (at w i HEIGHT) (at w i LOW) (at w i HIGH) room)

  pub stamped_same : ((i k : ℕ) → BUCKET < k → k < node_words → at u i k ≡ at w i k) → Stamped w → Stamped u
  stamped_same f s =
      let stamp = f 0 STAMP (omega arith) (omega arith) in
      record {
        small = λ some. omega (arith, s.small (omega arith));
        slots = λ i li. omega (arith, f i OPERATION (omega arith) (omega arith), s.slots i (omega arith));
      }

  module _ (nodes : (i k : ℕ) → k ≤ BUCKET → at u i k ≡ at w i k) (n : ℕ) (g : Good w n) where
    cache_home : (i : ℕ) → home_of u i ≡ home_of w i
    cache_home i = home_same i (λ k lk. nodes i k (omega arith))

    pub cache_tree : (x : ℕ) → tree_at u n x ≡ tree_at w n x
    cache_tree x = tree_frame w u n x (λ i k li lk. nodes i k (omega arith))

    cache_chained : (i : ℕ) → i < n → On u i (at u (home_of u i) BUCKET)
    cache_chained i li =
        let j : ℕ = home_of w i in
        let o : On u i (at w j BUCKET) = on_frame u n (λ k lk. nodes k NEXT (omega arith)) g.next (g.chained i li) (g.first j (bucket_lt w _ _ _ (omega (arith, g.fits)))) in
        rw (cache_home i, nodes j BUCKET (omega arith)) o

    -- the nodes and the buckets are as they were: it is the cache that has to be true
    pub cache_good : Stamped u → ((i : ℕ) → i < room_of u → (op : Op) → at u i OPERATION ≡ key_of u op → Cached u n i op) → Good u n
    cache_good s k = record {
      fits = omega (arith, g.fits);
      low = λ i li. omega (arith, nodes i LOW (omega arith), g.low i li);
      high = λ i li. omega (arith, nodes i HIGH (omega arith), g.high i li);
      reduced = λ x lx. rw (cache_tree x) (g.reduced x lx);
      once = λ x y lx ly q. g.once x y lx ly (sym (cache_tree x) ∙ q ∙ cache_tree y);
      next = λ i li. omega (arith, nodes i NEXT (omega arith), g.next i li);
      first = λ i li. omega (arith, nodes i BUCKET (omega arith), g.first i (omega arith));
      chained = cache_chained;
      first_home = λ b lb i e. cache_home i ∙ g.first_home b (omega arith) i (sym (nodes b BUCKET (omega arith)) ∙ e);
      next_home = λ j lj i e. cache_home i ∙ g.next_home j lj i (sym (nodes j NEXT (omega arith)) ∙ e) ∙ sym (cache_home j);
      stamped = s;
      cached = k;
    }
