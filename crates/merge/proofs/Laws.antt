-- Pairs written in place.
use Prim.Native.Nat.{ℕ, zero, suc, ◌+◌, ◌-◌, ◌*◌, ◌≤◌, ◌<◌}
use mathlib.Core.Path.{◌≡◌, refl, sym, ap, subst, ◌∙◌}
use mathlib.Core.Bool.{Bool, true, false}
use mathlib.Core.List.{List, [], ◌∷◌, ◌++◌, append_assoc, append-nil}
use native.Mathlib.Omega.{arith}
use native.Mathlib.Numerals.{add-one}
use lib.ListN.{length, get_or, take, drop, set, length-set, length-append, drop_of_length-le}
use Rattle.std.specs.Prelude.{Option, Some, None}
use lib.Seq.{get_or-set_same, get_or-set_other, take-suc, drop-cons}
use Rattle.text.specs.Choice.{pick}
use Rattle.layout.specs.Layout.{schema_word, pair_key, pair_value}
use Rattle.schema.specs.Shape.{Pair}
use Rattle.merge.specs.Merge.{put, put_all}
use Rattle.merge.specs.Pairs.{pair, pairs_at, flat_pairs, merge_all, record_pairs}
use Rattle.merge.specs.Meets.{Placed}

pub pairs-length : (L : List ℕ) (at n : ℕ) → length (pairs_at L at n) ≡ n
unfolding pairs_at
pairs-length L at zero = refl
pairs-length L at (suc n) = ap suc (pairs-length L (at + 2) n)

pub pairs_snoc : (L : List ℕ) (at n : ℕ) → pairs_at L at (suc n) ≡ pairs_at L at n ++ (pair (get_or L (at + n * 2) 0) (get_or L (at + n * 2 + 1) 0) ∷ [])
unfolding pairs_at
pairs_snoc L at zero = let e : at + 0 * 2 ≡ at = omega arith in rw e
pairs_snoc L at (suc n) =
    let e : at + suc n * 2 ≡ at + 2 + n * 2 = omega arith in
    rw e (ap (λ (l : List (Pair ℕ)). pair (get_or L at 0) (get_or L (at + 1) 0) ∷ l) (pairs_snoc L (at + 2) n))

pairs_above : (L : List ℕ) (i v at n : ℕ) → i < at → pairs_at (set L i v) at n ≡ pairs_at L at n
unfolding pairs_at
pairs_above L i v at zero h = refl
pairs_above L i v at (suc n) h =
    let a : get_or (set L i v) at 0 ≡ get_or L at 0 = get_or-set_other L i at v 0 (λ z. omega arith) in
    let b : get_or (set L i v) (at + 1) 0 ≡ get_or L (at + 1) 0 = get_or-set_other L i (at + 1) v 0 (λ z. omega arith) in
    rw (a, b) (ap (λ (l : List (Pair ℕ)). pair (get_or L at 0) (get_or L (at + 1) 0) ∷ l) (pairs_above L i v (at + 2) n (omega arith)))

abbrev pub both-set : List ℕ → ℕ → ℕ → ℕ → List ℕ
both-set L i k v = set (set L i k) (i + 1) v

pub pairs_set : (L : List ℕ) (at k v n j : ℕ) → j < n → at + n * 2 ≤ length L → pairs_at (both-set L (at + j * 2) k v) at n ≡ pairs_at L at j ++ (pair k v ∷ pairs_at L (at + j * 2 + 2) (n - (j + 1)))
unfolding pairs_at
pairs_set L at k v zero j h l = absurd (omega arith)
pairs_set L at k v (suc n) zero h l =
    let e : at + 0 * 2 ≡ at = omega arith in
    let m : suc n - (0 + 1) ≡ n = omega arith in
    let a : get_or (both-set L at k v) at 0 ≡ k = get_or-set_other (set L at k) (at + 1) at v 0 (λ z. omega arith) ∙ get_or-set_same L at k 0 (omega arith) in
    let b : get_or (both-set L at k v) (at + 1) 0 ≡ v = get_or-set_same (set L at k) (at + 1) v 0 (rw length-set (omega arith)) in
    let r : pairs_at (both-set L at k v) (at + 2) n ≡ pairs_at L (at + 2) n = pairs_above (set L at k) (at + 1) v (at + 2) n (omega arith) ∙ pairs_above L at k (at + 2) n (omega arith) in
    rw (e, m) (rw (a, b) (ap (λ (x : List (Pair ℕ)). pair k v ∷ x) (subst (λ (i : ℕ). pairs_at (both-set L i k v) (at + 2) n ≡ pairs_at L (at + 2) n) (sym e) r)))
pairs_set L at k v (suc n) (suc j) h l =
    let e : at + suc j * 2 ≡ at + 2 + j * 2 = omega arith in
    let m : suc n - (suc j + 1) ≡ n - (j + 1) = omega arith in
    let a : get_or (both-set L (at + 2 + j * 2) k v) at 0 ≡ get_or L at 0 = get_or-set_other (set L (at + 2 + j * 2) k) (at + 2 + j * 2 + 1) at v 0 (λ z. omega arith) ∙ get_or-set_other L (at + 2 + j * 2) at k 0 (λ z. omega arith) in
    let b : get_or (both-set L (at + 2 + j * 2) k v) (at + 1) 0 ≡ get_or L (at + 1) 0 = get_or-set_other (set L (at + 2 + j * 2) k) (at + 2 + j * 2 + 1) (at + 1) v 0 (λ z. omega arith) ∙ get_or-set_other L (at + 2 + j * 2) (at + 1) k 0 (λ z. omega arith) in
    subst (λ (i : ℕ). pairs_at (both-set L i k v) at (suc n) ≡ pairs_at L at (suc j) ++ (pair k v ∷ pairs_at L (i + 2) (suc n - (suc j + 1)))) (sym e) (rw (m, a, b) (ap (λ (x : List (Pair ℕ)). pair (get_or L at 0) (get_or L (at + 1) 0) ∷ x) (pairs_set L (at + 2) k v n j (omega arith) (omega arith))))

-- the two cases of a result
pub placed-some : (R R' : List ℕ) (ps : List (Pair ℕ)) (n : ℕ) → pairs_at R' 0 n ≡ ps → n * 2 ≤ length R → length R' ≡ length R → Placed R R' ps (Some n)
placed-some R R' ps n a b l =
    record {
      stand = λ m e. (let z : n ≡ m = cc in rw (← z) a);
      room = λ m e. (let z : n ≡ m = cc in omega arith);
      full = λ e. absurd cc;
      long = l;
    }

pub placed-none : (R R' : List ℕ) (ps : List (Pair ℕ)) → length R < length ps * 2 → length R' ≡ length R → Placed R R' ps None
placed-none R R' ps f l = record { stand = λ m e. absurd cc; room = λ m e. absurd cc; full = λ _. f; long = l }

module _ (same : ℕ → ℕ → Bool) where
  put_least_pick : (b : Bool) (q p : Pair ℕ) (ps rest : List (Pair ℕ)) → length ps ≤ length rest → suc (length ps) ≤ length (pick b (q ∷ ps) (p ∷ rest))
  put_least_pick true q p ps rest h = omega arith
  put_least_pick false q p ps rest h = omega arith

  pub put_least : (q : Pair ℕ) (ps : List (Pair ℕ)) → length ps ≤ length (put same q ps)
  unfolding put
  put_least q [] = omega arith
  put_least q (p ∷ ps) = put_least_pick (same p.key q.key) q p ps (put same q ps) (put_least q ps)

  pub merge_least : (acc qs : List (Pair ℕ)) → length acc ≤ length (put_all same acc qs)
  unfolding put_all
  merge_least acc [] = omega arith
  merge_least acc (q ∷ qs) = omega (arith, put_least q acc, merge_least (put same q acc) qs)

  -- put_pair after j turns
  pub record Seeking (R : List ℕ) (n : ℕ) (q : Pair ℕ) (j : ℕ) : Type 0 where
    pub turn : j ≤ n
    pub fits : n * 2 ≤ length R
    pub rest : put same q (pairs_at R 0 n) ≡ pairs_at R 0 j ++ put same q (pairs_at R (j * 2) (n - j))

  pub seek-none : (R : List ℕ) (n : ℕ) (q : Pair ℕ) → n * 2 ≤ length R → Seeking R n q 0
  unfolding pairs_at
  seek-none R n q h =
      let b : n - 0 ≡ n = omega arith in
      record { turn = omega arith; fits = h; rest = rw b }

  module _ (R : List ℕ) (n k v j : ℕ) (g : Seeking R n (pair k v) j) where
    left : j < n → n - j ≡ suc (n - (j + 1))
    left h = omega arith

    seek-step : j < n → same (get_or R (j * 2) 0) k ≡ false → put same (pair k v) (pairs_at R (j * 2) (n - j)) ≡ pair (get_or R (j * 2) 0) (get_or R (j * 2 + 1) 0) ∷ put same (pair k v) (pairs_at R ((j + 1) * 2) (n - (j + 1)))
    unfolding pairs_at put
    seek-step h e = let a : (j + 1) * 2 ≡ j * 2 + 2 = omega arith in rw (left h, e, a)

    pub seek_more : (M : List ℕ) → M ≡ R → j < n → same (get_or M (j * 2) 0) k ≡ false → Seeking R n (pair k v) (j + 1)
    seek_more M u h e =
        let x : Pair ℕ = pair (get_or R (j * 2) 0) (get_or R (j * 2 + 1) 0) in
        let T = put same (pair k v) (pairs_at R ((j + 1) * 2) (n - (j + 1))) in
        let z : 0 + j * 2 ≡ j * 2 = omega arith in
        let snoc : pairs_at R 0 (j + 1) ≡ pairs_at R 0 j ++ (x ∷ []) = ap (pairs_at R 0) (add-one j) ∙ rw z at (pairs_snoc R 0 j) in
        record {
          turn = omega arith;
          fits = g.fits;
          rest = g.rest ∙ ap (λ (l : List (Pair ℕ)). pairs_at R 0 j ++ l) (seek-step h (rw u at e)) ∙ sym (append_assoc (pairs_at R 0 j) (x ∷ []) T) ∙ ap (λ (l : List (Pair ℕ)). l ++ T) (sym snoc);
        }

    pub seek_hit : (M : List ℕ) → M ≡ R → j < n → same (get_or M (j * 2) 0) k ≡ true → Placed R (both-set M (j * 2) k v) (put same (pair k v) (pairs_at R 0 n)) (Some n)
    unfolding pairs_at put
    seek_hit M u h e =
        let z : 0 + j * 2 ≡ j * 2 = omega arith in
        let e' : same (get_or R (j * 2) 0) k ≡ true = rw u at e in
        rw u
        (placed-some R (both-set R (j * 2) k v) (put same (pair k v) (pairs_at R 0 n)) n
        ((rw z at (pairs_set R 0 k v n j h (omega (arith, g.fits)))) ∙ sym (g.rest ∙ rw (left h, e')))
        g.fits
        (length-set (set R (j * 2) k) (j * 2 + 1) v ∙ length-set R (j * 2) k))

    pub seek_whole : n ≤ j → put same (pair k v) (pairs_at R 0 n) ≡ pairs_at R 0 n ++ (pair k v ∷ [])
    unfolding pairs_at put
    seek_whole h =
        let a : n - j ≡ 0 = omega arith in
        let b : j ≡ n = omega (arith, g.turn) in
        g.rest ∙ rw (a, b)

    pub seek_full : (M : List ℕ) → M ≡ R → n ≤ j → length M < n * 2 + 2 → Placed R M (put same (pair k v) (pairs_at R 0 n)) None
    seek_full M u h f =
        let e : length (put same (pair k v) (pairs_at R 0 n)) ≡ n + 1 = ap length (seek_whole h) ∙ length-append (pairs_at R 0 n) (pair k v ∷ []) ∙ ap (λ (x : ℕ). x + 1) (pairs-length R 0 n) in
        placed-none R M (put same (pair k v) (pairs_at R 0 n)) (omega (arith, ap length u)) (ap length u)

    pub seek_new : (M : List ℕ) → M ≡ R → n ≤ j → n * 2 + 2 ≤ length M → Placed R (both-set M (n * 2) k v) (put same (pair k v) (pairs_at R 0 n)) (Some (n + 1))
    unfolding pairs_at
    seek_new M u h b =
        let z : 0 + n * 2 ≡ n * 2 = omega arith in
        let m : n + 1 - (n + 1) ≡ 0 = omega arith in
        let l : n * 2 + 2 ≤ length R = rw u at b in
        rw u
        (placed-some R (both-set R (n * 2) k v) (put same (pair k v) (pairs_at R 0 n)) (n + 1)
        ((rw z at (pairs_set R 0 k v (n + 1) n (omega arith) (omega arith))) ∙ rw m (sym (seek_whole h)))
        (omega arith)
        (length-set (set R (n * 2) k) (n * 2 + 1) v ∙ length-set R (n * 2) k))

  -- put_pairs after i turns
  pub record Merging (L R₀ R : List ℕ) (first count n i m : ℕ) : Type 0 where
    pub turn : i ≤ count
    pub fits : m * 2 ≤ length R₀
    pub long : length R ≡ length R₀
    pub rest : put_all same (pairs_at R₀ 0 n) (pairs_at L first count) ≡ put_all same (pairs_at R 0 m) (pairs_at L (first + i * 2) (count - i))

  module _ (L R₀ R : List ℕ) (first count n i m : ℕ) (g : Merging L R₀ R first count n i m) where
    pub merging_end : count ≤ i → Placed R₀ R (put_all same (pairs_at R₀ 0 n) (pairs_at L first count)) (Some m)
    unfolding pairs_at put_all
    merging_end h =
        let a : count - i ≡ 0 = omega arith in
        placed-some R₀ R (put_all same (pairs_at R₀ 0 n) (pairs_at L first count)) m (sym (g.rest ∙ rw a)) g.fits g.long

    module _ (h : i < count) (k v : ℕ) (a : k ≡ pair_key L first i) (b : v ≡ pair_value L first i) (R' : List ℕ) where
      abbrev one_more : List (Pair ℕ)
      one_more = put same (pair k v) (pairs_at R 0 m)

      abbrev left_over : List (Pair ℕ)
      left_over = pairs_at L (first + (i + 1) * 2) (count - (i + 1))

      pub turned : put_all same (pairs_at R₀ 0 n) (pairs_at L first count) ≡ put_all same one_more left_over
      unfolding pairs_at put_all pair_key pair_value
      turned =
          let e : count - i ≡ suc (count - (i + 1)) = omega arith in
          let f : first + (i + 1) * 2 ≡ first + i * 2 + 2 = omega arith in
          g.rest ∙ rw (e, a, b, f)

      pub merging_more : (x : ℕ) → Placed R R' one_more (Some x) → Merging L R₀ R' first count n (i + 1) x
      merging_more x p =
          record {
            turn = omega arith;
            fits = omega (arith, p.room x refl, g.long);
            long = p.long ∙ g.long;
            rest = turned ∙ ap (λ (l : List (Pair ℕ)). put_all same l left_over) (sym (p.stand x refl));
          }

      pub merging_full : Placed R R' one_more None → Placed R₀ R' (put_all same (pairs_at R₀ 0 n) (pairs_at L first count)) None
      merging_full p =
          placed-none R₀ R' (put_all same (pairs_at R₀ 0 n) (pairs_at L first count)) (omega (arith, p.full refl, g.long, ap length turned, merge_least one_more left_over)) (p.long ∙ g.long)

  pub all_least : (list : ℕ → List (Pair ℕ)) (acc : List (Pair ℕ)) (bs : List ℕ) → length acc ≤ length (merge_all same list acc bs)
  unfolding merge_all
  all_least list acc [] = omega arith
  all_least list acc (b ∷ bs) = omega (arith, merge_least acc (list b), all_least list (put_all same acc (list b)) bs)

  -- merge_all after j turns
  pub record Gathering (S L B R₀ R : List ℕ) (k j m : ℕ) : Type 0 where
    pub turn : j ≤ length B
    pub fits : m * 2 ≤ length R₀
    pub long : length R ≡ length R₀
    pub rest : merge_all same (record_pairs S L k) [] B ≡ merge_all same (record_pairs S L k) (pairs_at R 0 m) (drop j B)

  pub gathering_none : (S L B R : List ℕ) (k : ℕ) → Gathering S L B R R k 0 0
  unfolding pairs_at
  gathering_none S L B R k = record { turn = omega arith; fits = omega arith; long = refl; rest = refl }

  module _ (S L B R₀ R : List ℕ) (k j m : ℕ) (g : Gathering S L B R₀ R k j m) where
    abbrev whole : List (Pair ℕ)
    whole = merge_all same (record_pairs S L k) [] B

    pub gathering_end : length B ≤ j → Placed R₀ R whole (Some m)
    unfolding merge_all
    gathering_end h =
        let a : drop j B ≡ [] = drop_of_length-le B {i = j} h in
        placed-some R₀ R whole m (sym (g.rest ∙ rw a)) g.fits g.long

    module _ (h : j < length B) (first n : ℕ) (ef : first ≡ schema_word S (get_or B j 0) k) (en : n ≡ schema_word S (get_or B j 0) (k + 1)) (R' : List ℕ) where
      abbrev wider : List (Pair ℕ)
      wider = put_all same (pairs_at R 0 m) (pairs_at L first n)

      pub turned_all : whole ≡ merge_all same (record_pairs S L k) wider (drop (j + 1) B)
      unfolding merge_all record_pairs
      turned_all =
          let a : drop j B ≡ get_or B j 0 ∷ drop (suc j) B = drop-cons B j 0 h in
          let d : suc j ≡ j + 1 = omega arith in
          g.rest ∙ rw (a, ef, en, d)

      pub gathering_more : (x : ℕ) → Placed R R' wider (Some x) → Gathering S L B R₀ R' k (j + 1) x
      gathering_more x p =
          record {
            turn = omega arith;
            fits = omega (arith, p.room x refl, g.long);
            long = p.long ∙ g.long;
            rest = turned_all ∙ ap (λ (l : List (Pair ℕ)). merge_all same (record_pairs S L k) l (drop (j + 1) B)) (sym (p.stand x refl));
          }

      pub gathering_full : Placed R R' wider None → Placed R₀ R' whole None
      gathering_full p =
          placed-none R₀ R' whole (omega (arith, p.full refl, g.long, ap length turned_all, all_least (record_pairs S L k) wider (drop (j + 1) B))) (p.long ∙ g.long)

  -- merge_pairs
  module _ (L R₀ R : List ℕ) (first n : ℕ) (acc : List (Pair ℕ)) where
    pub joining_full : Placed R₀ R acc None → Placed R₀ R (put_all same acc (pairs_at L first n)) None
    joining_full a =
        placed-none R₀ R (put_all same acc (pairs_at L first n)) (omega (arith, a.full refl, merge_least acc (pairs_at L first n))) a.long

    pub joining_fits : (x : ℕ) → Placed R₀ R acc (Some x) → x * 2 ≤ length R
    joining_fits x a = omega (arith, a.room x refl, a.long)

    pub joining_end : (x : ℕ) → Placed R₀ R acc (Some x) → (R' : List ℕ) (r : Option ℕ) → Placed R R' (put_all same (pairs_at R 0 x) (pairs_at L first n)) r → Placed R₀ R' (put_all same acc (pairs_at L first n)) r
    joining_end x a R' r b =
        let s : put_all same (pairs_at R 0 x) (pairs_at L first n) ≡ put_all same acc (pairs_at L first n) = rw (a.stand x refl) in
        record {
          stand = λ m e. b.stand m e ∙ s;
          room = λ m e. omega (arith, b.room m e, a.long);
          full = λ e. omega (arith, b.full e, ap length s, a.long);
          long = b.long ∙ a.long;
        }

-- pairs that stand are the words that stand
flat_take : (L : List ℕ) (ul n : ℕ) → ul + n * 2 ≤ length L → take (ul + n * 2) L ≡ take ul L ++ flat_pairs (pairs_at L ul n)
unfolding pairs_at flat_pairs
flat_take L ul zero h =
    let a : ul + 0 * 2 ≡ ul = omega arith in
    rw a (sym (append-nil (take ul L)))
flat_take L ul (suc n) h =
    let a : ul + suc n * 2 ≡ ul + 2 + n * 2 = omega arith in
    let b : ul + 2 ≡ suc (suc ul) = omega arith in
    let d : ul + 1 ≡ suc ul = omega arith in
    let two : take (ul + 2) L ≡ take ul L ++ (get_or L ul 0 ∷ get_or L (ul + 1) 0 ∷ []) = rw (b, take-suc L (suc ul) 0 (omega arith), take-suc L ul 0 (omega arith), d) (append_assoc (take ul L) (get_or L ul 0 ∷ []) (get_or L (suc ul) 0 ∷ [])) in
    rw a (flat_take L (ul + 2) n (omega arith) ∙ rw (two, append_assoc))

pub flat_length : (ps : List (Pair ℕ)) → length (flat_pairs ps) ≡ length ps * 2
unfolding flat_pairs
flat_length [] = refl
flat_length (p ∷ ps) = omega (arith, flat_length ps)

-- so that the front of the room is their words
pub placed_words : (R R' : List ℕ) (ps : List (Pair ℕ)) (n : ℕ) → Placed R R' ps (Some n) → (take (n * 2) R' ≡ flat_pairs ps) × (length (flat_pairs ps) ≡ n * 2)
placed_words R R' ps n p =
    let e : length ps ≡ n = ap length (sym (p.stand n refl)) ∙ pairs-length R' 0 n in
    let z : 0 + n * 2 ≡ n * 2 = omega arith in
    let t : take (n * 2) R' ≡ flat_pairs (pairs_at R' 0 n) = rw z at (flat_take R' 0 n (omega (arith, p.room n refl, p.long))) in
    (t ∙ ap flat_pairs (p.stand n refl), omega (arith, flat_length ps))
