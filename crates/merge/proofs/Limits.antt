-- Pairs written in place, within the limit of the links.
use Prim.Native.Nat.{ℕ, ◌+◌, ◌*◌, ◌-◌, ◌≤◌, ◌<◌}
use mathlib.Core.Path.{◌≡◌, refl, ap, ◌∙◌}
use mathlib.Core.Bool.{Bool, true, false}
use mathlib.Core.List.{List, [], ◌∷◌, ◌++◌}
use native.Mathlib.Omega.{arith}
use lib.ListN.{length, get_or, take, drop, length-append}
use Rattle.std.specs.Prelude.{Option, Some, None}
use Rattle.layout.specs.Layout.{most_links, schema_word, pair_key, pair_value}
use Rattle.schema.specs.Shape.{Pair}
use Rattle.merge.specs.Merge.{put, put_all}
use Rattle.merge.specs.Pairs.{pair, pairs_at, flat_pairs, merge_all, record_pairs}
use Rattle.merge.specs.Meets.{Placed, PlacedWithin}
use Rattle.merge.proofs.Laws.{both-set, pairs-length}
use Rattle.merge.proofs.Laws as laws

-- the two cases of a result
pub placed-some : (at : ℕ) (R R' : List ℕ) (ps : List (Pair ℕ)) (n : ℕ) → pairs_at R' 0 n ≡ ps → n * 2 ≤ length R → at + n * 2 ≤ most_links → length R' ≡ length R → PlacedWithin at R R' ps (Some n)
placed-some at R R' ps n a b t l =
    record {
      stand = λ m e. (let z : n ≡ m = cc in rw (← z) a);
      room = λ m e. (let z : n ≡ m = cc in omega arith);
      limit = λ m e. (let z : n ≡ m = cc in omega arith);
      full = λ e. absurd cc;
      long = l;
    }

pub placed-none : (at : ℕ) (R R' : List ℕ) (ps : List (Pair ℕ)) → (at + length ps * 2 ≤ most_links → length R < length ps * 2) → length R' ≡ length R → PlacedWithin at R R' ps None
placed-none at R R' ps f l =
    record {
      stand = λ m e. absurd cc;
      room = λ m e. absurd cc;
      limit = λ m e. absurd cc;
      full = λ _. f;
      long = l;
    }

pub placed-past : (at : ℕ) (R : List ℕ) (ps : List (Pair ℕ)) → most_links < at + length ps * 2 → PlacedWithin at R R ps None
placed-past at R ps h = placed-none at R R ps (λ z. absurd (omega arith)) refl

-- what stands is the same with the limit and without it
limited : (at : ℕ) (R R' : List ℕ) (ps : List (Pair ℕ)) (n : ℕ) → at + n * 2 ≤ most_links → Placed R R' ps (Some n) → PlacedWithin at R R' ps (Some n)
limited at R R' ps n t p = placed-some at R R' ps n (p.stand n refl) (p.room n refl) t p.long

pub unlimited : (at : ℕ) (R R' : List ℕ) (ps : List (Pair ℕ)) (n : ℕ) → PlacedWithin at R R' ps (Some n) → Placed R R' ps (Some n)
unlimited at R R' ps n p = laws.placed-some R R' ps n (p.stand n refl) (p.room n refl) p.long

module _ (same : ℕ → ℕ → Bool) where
  -- the n pairs pass the limit already
  pub put_past : (at : ℕ) (R : List ℕ) (n : ℕ) (q : Pair ℕ) → most_links < at + n * 2 → PlacedWithin at R R (put same q (pairs_at R 0 n)) None
  put_past at R n q h =
      placed-past at R (put same q (pairs_at R 0 n)) (omega (arith, laws.put_least same q (pairs_at R 0 n), pairs-length R 0 n))

  pub put_all_past : (at : ℕ) (R : List ℕ) (n : ℕ) (qs : List (Pair ℕ)) → most_links < at + n * 2 → PlacedWithin at R R (put_all same (pairs_at R 0 n) qs) None
  put_all_past at R n qs h =
      placed-past at R (put_all same (pairs_at R 0 n) qs) (omega (arith, laws.merge_least same (pairs_at R 0 n) qs, pairs-length R 0 n))

  -- put_pair_within after j turns
  pub record Seeking (at : ℕ) (R : List ℕ) (n : ℕ) (q : Pair ℕ) (j : ℕ) : Type 0 where
    pub turn : j ≤ n
    pub fits : n * 2 ≤ length R
    pub limit : at + n * 2 ≤ most_links
    pub rest : put same q (pairs_at R 0 n) ≡ pairs_at R 0 j ++ put same q (pairs_at R (j * 2) (n - j))

  pub seek-none : (at : ℕ) (R : List ℕ) (n : ℕ) (q : Pair ℕ) → n * 2 ≤ length R → at + n * 2 ≤ most_links → Seeking at R n q 0
  seek-none at R n q h l = record { turn = omega arith; fits = h; limit = l; rest = (laws.seek-none same R n q h).rest }

  module _ (at : ℕ) (R : List ℕ) (n k v j : ℕ) (g : Seeking at R n (pair k v) j) where
    seeking : laws.Seeking same R n (pair k v) j
    seeking = record { turn = g.turn; fits = g.fits; rest = g.rest }

    pub seek_more : (M : List ℕ) → M ≡ R → j < n → same (get_or M (j * 2) 0) k ≡ false → Seeking at R n (pair k v) (j + 1)
    seek_more M u h e =
        record { turn = omega arith; fits = g.fits; limit = g.limit; rest = (laws.seek_more same R n k v j seeking M u h e).rest }

    pub seek_hit : (M : List ℕ) → M ≡ R → j < n → same (get_or M (j * 2) 0) k ≡ true → PlacedWithin at R (both-set M (j * 2) k v) (put same (pair k v) (pairs_at R 0 n)) (Some n)
    seek_hit M u h e = limited at R _ _ n g.limit (laws.seek_hit same R n k v j seeking M u h e)

    pub seek_full : (M : List ℕ) → M ≡ R → n ≤ j → (at + (n * 2 + 2) ≤ most_links → length M < n * 2 + 2) → PlacedWithin at R M (put same (pair k v) (pairs_at R 0 n)) None
    seek_full M u h f =
        let e : length (put same (pair k v) (pairs_at R 0 n)) ≡ n + 1 = ap length (laws.seek_whole same R n k v j seeking h) ∙ length-append (pairs_at R 0 n) (pair k v ∷ []) ∙ ap (λ (x : ℕ). x + 1) (pairs-length R 0 n) in
        placed-none at R M (put same (pair k v) (pairs_at R 0 n)) (λ z. omega (arith, f (omega arith), ap length u)) (ap length u)

    pub seek_new : (M : List ℕ) → M ≡ R → n ≤ j → n * 2 + 2 ≤ length M → at + (n * 2 + 2) ≤ most_links → PlacedWithin at R (both-set M (n * 2) k v) (put same (pair k v) (pairs_at R 0 n)) (Some (n + 1))
    seek_new M u h b t = limited at R _ _ (n + 1) (omega arith) (laws.seek_new same R n k v j seeking M u h b)

  -- put_pairs_within after i turns
  pub record Merging (at : ℕ) (L R₀ R : List ℕ) (first count n i m : ℕ) : Type 0 where
    pub turn : i ≤ count
    pub fits : m * 2 ≤ length R₀
    pub limit : at + m * 2 ≤ most_links
    pub long : length R ≡ length R₀
    pub rest : put_all same (pairs_at R₀ 0 n) (pairs_at L first count) ≡ put_all same (pairs_at R 0 m) (pairs_at L (first + i * 2) (count - i))

  module _ (at : ℕ) (L R₀ R : List ℕ) (first count n i m : ℕ) (g : Merging at L R₀ R first count n i m) where
    merging : laws.Merging same L R₀ R first count n i m
    merging = record { turn = g.turn; fits = g.fits; long = g.long; rest = g.rest }

    pub merging_end : count ≤ i → PlacedWithin at R₀ R (put_all same (pairs_at R₀ 0 n) (pairs_at L first count)) (Some m)
    merging_end h = limited at R₀ R _ m g.limit (laws.merging_end same L R₀ R first count n i m merging h)

    module _ (h : i < count) (k v : ℕ) (a : k ≡ pair_key L first i) (b : v ≡ pair_value L first i) (R' : List ℕ) where
      abbrev one_more : List (Pair ℕ)
      one_more = put same (pair k v) (pairs_at R 0 m)

      abbrev left_over : List (Pair ℕ)
      left_over = pairs_at L (first + (i + 1) * 2) (count - (i + 1))

      pub merging_more : (x : ℕ) → PlacedWithin at R R' one_more (Some x) → Merging at L R₀ R' first count n (i + 1) x
      merging_more x p =
          let t = laws.merging_more same L R₀ R first count n i m merging h k v a b R' x (unlimited at R R' one_more x p) in
          record { turn = t.turn; fits = t.fits; limit = p.limit x refl; long = t.long; rest = t.rest }

      pub merging_full : PlacedWithin at R R' one_more None → PlacedWithin at R₀ R' (put_all same (pairs_at R₀ 0 n) (pairs_at L first count)) None
      merging_full p =
          let t : put_all same (pairs_at R₀ 0 n) (pairs_at L first count) ≡ put_all same one_more left_over = laws.turned same L R₀ R first count n i m merging h k v a b R' in
          placed-none at R₀ R' (put_all same (pairs_at R₀ 0 n) (pairs_at L first count)) (λ z. omega (arith, p.full refl, g.long, ap length t, laws.merge_least same one_more left_over)) (p.long ∙ g.long)

  -- merge_all_within after j turns
  pub record Gathering (at : ℕ) (S L B R₀ R : List ℕ) (k j m : ℕ) : Type 0 where
    pub turn : j ≤ length B
    pub fits : m * 2 ≤ length R₀
    pub limit : at + m * 2 ≤ most_links
    pub long : length R ≡ length R₀
    pub rest : merge_all same (record_pairs S L k) [] B ≡ merge_all same (record_pairs S L k) (pairs_at R 0 m) (drop j B)

  pub gathering_none : (at : ℕ) (S L B R : List ℕ) (k : ℕ) → at ≤ most_links → Gathering at S L B R R k 0 0
  unfolding pairs_at
  gathering_none at S L B R k h = record { turn = omega arith; fits = omega arith; limit = omega arith; long = refl; rest = refl }

  module _ (at : ℕ) (S L B R₀ R : List ℕ) (k j m : ℕ) (g : Gathering at S L B R₀ R k j m) where
    abbrev whole : List (Pair ℕ)
    whole = merge_all same (record_pairs S L k) [] B

    gathering : laws.Gathering same S L B R₀ R k j m
    gathering = record { turn = g.turn; fits = g.fits; long = g.long; rest = g.rest }

    pub gathering_end : length B ≤ j → PlacedWithin at R₀ R whole (Some m)
    gathering_end h = limited at R₀ R whole m g.limit (laws.gathering_end same S L B R₀ R k j m gathering h)

    module _ (h : j < length B) (first n : ℕ) (ef : first ≡ schema_word S (get_or B j 0) k) (en : n ≡ schema_word S (get_or B j 0) (k + 1)) (R' : List ℕ) where
      abbrev wider : List (Pair ℕ)
      wider = put_all same (pairs_at R 0 m) (pairs_at L first n)

      pub gathering_more : (x : ℕ) → PlacedWithin at R R' wider (Some x) → Gathering at S L B R₀ R' k (j + 1) x
      gathering_more x p =
          let t = laws.gathering_more same S L B R₀ R k j m gathering h first n ef en R' x (unlimited at R R' wider x p) in
          record { turn = t.turn; fits = t.fits; limit = p.limit x refl; long = t.long; rest = t.rest }

      pub gathering_full : PlacedWithin at R R' wider None → PlacedWithin at R₀ R' whole None
      gathering_full p =
          let t : whole ≡ merge_all same (record_pairs S L k) wider (drop (j + 1) B) = laws.turned_all same S L B R₀ R k j m gathering h first n ef en R' in
          placed-none at R₀ R' whole (λ z. omega (arith, p.full refl, g.long, ap length t, laws.all_least same (record_pairs S L k) wider (drop (j + 1) B))) (p.long ∙ g.long)

  -- merge_pairs_within
  module _ (at : ℕ) (L R₀ R : List ℕ) (first n : ℕ) (acc : List (Pair ℕ)) where
    pub joining_full : PlacedWithin at R₀ R acc None → PlacedWithin at R₀ R (put_all same acc (pairs_at L first n)) None
    joining_full a =
        placed-none at R₀ R (put_all same acc (pairs_at L first n)) (λ z. omega (arith, a.full refl, laws.merge_least same acc (pairs_at L first n))) a.long

    pub joining_fits : (x : ℕ) → PlacedWithin at R₀ R acc (Some x) → x * 2 ≤ length R
    joining_fits x a = omega (arith, a.room x refl, a.long)

    pub joining_end : (x : ℕ) → PlacedWithin at R₀ R acc (Some x) → (R' : List ℕ) (r : Option ℕ) → PlacedWithin at R R' (put_all same (pairs_at R 0 x) (pairs_at L first n)) r → PlacedWithin at R₀ R' (put_all same acc (pairs_at L first n)) r
    joining_end x a R' r b =
        let s : put_all same (pairs_at R 0 x) (pairs_at L first n) ≡ put_all same acc (pairs_at L first n) = rw (a.stand x refl) in
        record {
          stand = λ m e. b.stand m e ∙ s;
          room = λ m e. omega (arith, b.room m e, a.long);
          limit = b.limit;
          full = λ e z. omega (arith, b.full e, ap length s, a.long);
          long = b.long ∙ a.long;
        }

-- so that the front of the room is their words
pub placed_words : (at : ℕ) (R R' : List ℕ) (ps : List (Pair ℕ)) (n : ℕ) → PlacedWithin at R R' ps (Some n) → (take (n * 2) R' ≡ flat_pairs ps) × (length (flat_pairs ps) ≡ n * 2)
placed_words at R R' ps n p = laws.placed_words R R' ps n (unlimited at R R' ps n p)
