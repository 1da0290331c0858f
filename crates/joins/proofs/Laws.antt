-- Lists laid one after the other. Assumes nothing.
use Prim.Native.Nat.{ℕ, zero, suc, ◌+◌, ◌-◌, ◌*◌, ◌≤◌, ◌<◌}
use mathlib.Core.Path.{◌≡◌, refl, sym, ap, ◌∙◌}
use mathlib.Core.Bool.{Bool, true, false}
use mathlib.Core.List.{List, [], ◌∷◌, ◌++◌, append_assoc, append-nil}
use native.Mathlib.Omega.{arith}
use native.Mathlib.Numerals.{add-one}
use borrow.Rule.Slice.PartMut.{put_mid, mid_of, post_of, same_len_mid}
use lib.ListN.{length, get_or, take, drop, set, length-set, length-append, length-drop, drop_of_length-le}
use lib.Seq.{take-suc, take-suc-set, length-take-le, take_all, take-append-add, drop-cons}
use Rattle.std.proofs.lemmas.List.{take-append-le, take_at, take-append-drop}
use Rattle.std.specs.Prelude.{Option, Some, None}
use lib.Dec.{eqb}
use borrow.Author.Tests.{eq-eqb, ne_eqb, lt-ltb, le-ltb}
use Rattle.std.specs.Prelude.{◌||◌}
use Rattle.std.specs.List.{list_any}
use Rattle.text.specs.Choice.{pick, either}
use Rattle.layout.specs.Layout.{NONE, most_links, note_word, schema_kind, schema_note, additional_properties, property_names, object_closed}
use Rattle.append.specs.Append.{room}
use Rattle.append.proofs.Laws.{room-yes, room_full, room_short, room_limit, room_lent}
use Rattle.schema.specs.Look.{slice}
use Rattle.schema.proofs.Slices.{slice_begin, slice_more, slice-end}
use Rattle.merge.specs.Meets.{Placed}
use Rattle.merge.specs.Pairs.{flat_pairs}
use Rattle.merge.proofs.Laws.{placed_words, flat_length}
use Rattle.schema.specs.Shape.{Pair}
use Rattle.joins.specs.declared.Offers.{Offers}
use Rattle.joins.specs.declared.Lists.{Lists}
use Rattle.joins.specs.Joins.{note_field, detects_case, offer_of, keep_one, joined, tally_one, tally, no_offers, offered_of, join_words, closed_of, total, Counted, Filled, Laid, Listed, Linked}

pub note-none : (N S : List ℕ) (b k note : ℕ) → note ≡ schema_note S b → note ≡ NONE → note_field N S b k ≡ NONE
unfolding note_field
note-none N S b k note e h = rw (← e, h)

pub note_some : (N S : List ℕ) (b k note r : ℕ) → note ≡ schema_note S b → (note ≡ NONE → ⊥) → r ≡ note_word N note k → note_field N S b k ≡ r
unfolding note_field
note_some N S b k note r e h q = rw (← e, ne_eqb note NONE h, q)

module _ (N S : List ℕ) (w kind : ℕ) (e : kind ≡ schema_kind S w) where
  pub detects_other : (kind ≡ 3 → ⊥) → false ≡ detects_case N S w
  unfolding detects_case
  detects_other h = rw (← e, ne_eqb kind 3 h)

  pub detects-note : (x : ℕ) → kind ≡ 3 → x ≡ note_field N S w 8 → eqb x 1 ≡ detects_case N S w
  unfolding detects_case
  detects-note x h q = rw (← e, h, ← q)

module _ (N S : List ℕ) (names : Bool) (b w : ℕ) where
  pub offer_out : names ≡ true → w ≡ property_names S b → (d : Bool) → d ≡ detects_case N S w → d ≡ true → NONE ≡ offer_of N S names b
  unfolding offer_of
  offer_out n e d q h = rw (n, ← e, ← q, h)

  pub offer_name : names ≡ true → w ≡ property_names S b → (d : Bool) → d ≡ detects_case N S w → d ≡ false → w ≡ offer_of N S names b
  unfolding offer_of
  offer_name n e d q h = rw (n, ← e, ← q, h)

  pub offer_additional : names ≡ false → w ≡ additional_properties S b → w ≡ offer_of N S names b
  unfolding offer_of
  offer_additional n e = rw n e

pub tally-none : (t : Offers) (w : ℕ) → w ≡ NONE → t ≡ tally_one t w
unfolding tally_one
tally-none t w h = rw (eq-eqb w NONE h)

pub tally_more : (t : Offers) (w : ℕ) → (w ≡ NONE → ⊥) → record { n = t.n + 1; last = w } ≡ tally_one t w
unfolding tally_one
tally_more t w h = rw (ne_eqb w NONE h)

-- the two cases of a result
pub filled-some : (R R' new : List ℕ) (n : ℕ) → length new ≡ n → n ≤ length R → take n R' ≡ new → length R' ≡ length R → Filled R R' new (Some n)
filled-some R R' new n c f g l =
    record {
      count = λ m e. (let z : n ≡ m = cc in rw (← z) c);
      fits = λ m e. (let z : n ≡ m = cc in rw (← z) f);
      front = λ m e. (let z : n ≡ m = cc in rw (← z) g);
      full = λ e. absurd cc;
      long = l;
    }

pub filled-none : (R R' new : List ℕ) → length R < length new → length R' ≡ length R → Filled R R' new None
filled-none R R' new f l = record { count = λ m e. absurd cc; fits = λ m e. absurd cc; front = λ m e. absurd cc; full = λ _. f; long = l }

pub slice-length : (xs : List ℕ) (at n : ℕ) → length (slice xs at n) ≡ n
unfolding slice
slice-length xs at zero = refl
slice-length xs at (suc n) = ap suc (slice-length xs (at + 1) n)

-- lay_list after k turns
pub record Copying (L R₀ R : List ℕ) (first count k : ℕ) : Type 0 where
  pub turn : k ≤ count
  pub fits : count ≤ length R₀
  pub long : length R ≡ length R₀
  pub rest : take k R ++ slice L (first + k) (count - k) ≡ slice L first count

pub copying_none : (L R : List ℕ) (first count : ℕ) → count ≤ length R → Copying L R R first count 0
copying_none L R first count h = record { turn = omega arith; fits = h; long = refl; rest = slice_begin L first count }

module _ (L R₀ R : List ℕ) (first count k : ℕ) (g : Copying L R₀ R first count k) where
  pub copying_more : (w : ℕ) → k < count → w ≡ get_or L (first + k) 0 → Copying L R₀ (set R k w) first count (k + 1)
  copying_more w lt e =
      record {
        turn = omega arith;
        fits = g.fits;
        long = length-set R k w ∙ g.long;
        rest = rw (add-one k, take-suc-set R k w (omega (arith, g.fits, g.long)), append_assoc, e) (rw (slice_more L first k count lt, add-one k) at g.rest);
      }

  pub copying_end : count ≤ k → Filled R₀ R (slice L first count) (Some count)
  copying_end h =
      let j : k ≡ count = omega (arith, g.turn) in
      filled-some R₀ R (slice L first count) count (slice-length L first count) g.fits
      (ap (λ (m : ℕ). take m R) (sym j) ∙ sym (append-nil (take k R)) ∙ ap (λ (l : List ℕ). take k R ++ l) (sym (slice-end L first k count h)) ∙ g.rest)
      g.long

pub list_short : (L R : List ℕ) (first count : ℕ) → length R < count → Filled R R (slice L first count) None
list_short L R first count h = filled-none R R (slice L first count) (omega (arith, slice-length L first count)) refl

pub kept-none : (w : ℕ) → w ≡ NONE → keep_one w ≡ []
unfolding keep_one
kept-none w h = rw (eq-eqb w NONE h)

pub kept_some : (w : ℕ) → (w ≡ NONE → ⊥) → keep_one w ≡ w ∷ []
unfolding keep_one
kept_some w h = rw (ne_eqb w NONE h)

pub nothing_laid : (R new : List ℕ) → new ≡ [] → Filled R R new (Some 0)
nothing_laid R new e = filled-some R R new 0 (ap length e) (omega arith) (sym e) refl

-- an offer laid, or left out
module _ (R : List ℕ) (w : ℕ) where
  pub offer_left : w ≡ NONE → Filled R R (keep_one w) (Some 0)
  offer_left h = nothing_laid R (keep_one w) (kept-none w h)

  pub offer_short : (w ≡ NONE → ⊥) → length R ≡ 0 → Filled R R (keep_one w) None
  offer_short h z = filled-none R R (keep_one w) (omega (arith, ap length (kept_some w h))) refl

  pub offer_laid : (w ≡ NONE → ⊥) → (length R ≡ 0 → ⊥) → Filled R (set R 0 w) (keep_one w) (Some 1)
  offer_laid h z =
      let e = kept_some w h in
      filled-some R (set R 0 w) (keep_one w) 1 (ap length e) (omega arith) (rw e (take-suc-set R 0 w (omega arith))) (length-set R 0 w)

-- what is left behind the first e words, and the whole with X in its place
abbrev pub left_of : ℕ → List ℕ → List ℕ
left_of e R = mid_of e (length R - e) R

abbrev pub behind : ℕ → List ℕ → List ℕ → List ℕ
behind e R X = put_mid e (length R - e) R X

module _ (R X : List ℕ) (e : ℕ) (h : e ≤ length R) where
  pub left-length : length (left_of e R) ≡ length R - e
  left-length = length-take-le (length R - e) (drop e R) (omega (arith, length-drop e R))

  behind-front : (n : ℕ) → n ≤ length X → take (e + n) (behind e R X) ≡ take e R ++ take n X
  behind-front n l =
      let Z : List ℕ = post_of e (length R - e) R in
      let a : length (take e R) ≡ e = length-take-le e R h in
      ap (λ (m : ℕ). take (m + n) (take e R ++ (X ++ Z))) (sym a) ∙ take-append-add (take e R) (X ++ Z) n ∙ ap (λ (l : List ℕ). take e R ++ l) (take-append-le n X Z l)

  pub behind-long : length X ≡ length (left_of e R) → length (behind e R X) ≡ length R
  behind-long l = same_len_mid e (length R - e) R X l

-- two lists, one after the other
module _ (R₀ R x : List ℕ) where
  pub then_full : Filled R₀ R x None → (y : List ℕ) → Filled R₀ R (x ++ y) None
  then_full a y = filled-none R₀ R (x ++ y) (omega (arith, a.full refl, length-append x y)) a.long

  module _ (e : ℕ) (a : Filled R₀ R x (Some e)) (X y : List ℕ) where
    within : e ≤ length R
    within = omega (arith, a.fits e refl, a.long)

    pub then_fits : (n : ℕ) → Filled (left_of e R) X y (Some n) → e + n ≤ length R₀
    then_fits n b = omega (arith, b.fits n refl, left-length R X e within, within, a.long)

    pub then_some : (n : ℕ) → Filled (left_of e R) X y (Some n) → Filled R₀ (behind e R X) (x ++ y) (Some (e + n))
    then_some n b =
        let f : take n X ≡ y = b.front n refl in
        filled-some R₀ (behind e R X) (x ++ y) (e + n)
        (omega (arith, length-append x y, a.count e refl, b.count n refl))
        (then_fits n b)
        (behind-front R X e within n (omega (arith, b.fits n refl, b.long)) ∙ rw (a.front e refl, f))
        (behind-long R X e within b.long ∙ a.long)

    pub then_none : Filled (left_of e R) X y None → Filled R₀ (behind e R X) (x ++ y) None
    then_none b =
        filled-none R₀ (behind e R X) (x ++ y)
        (omega (arith, b.full refl, left-length R X e within, length-append x y, a.count e refl, a.long))
        (behind-long R X e within b.long ∙ a.long)

-- the lists of a run of records laid one after the other: `f b` is the list of b; j records are done, and e is where the next list goes
pub record Laying (f : ℕ → List ℕ) (B R₀ R : List ℕ) (j e : ℕ) : Type 0 where
  pub turn : j ≤ length B
  pub done : Filled R₀ R (joined f (take j B)) (Some e)

joined_snoc : (f : ℕ → List ℕ) (xs : List ℕ) (b : ℕ) → joined f (xs ++ (b ∷ [])) ≡ joined f xs ++ f b
unfolding joined
joined_snoc f [] b = append-nil (f b)
joined_snoc f (x ∷ xs) b = ap (λ (l : List ℕ). f x ++ l) (joined_snoc f xs b) ∙ sym (append_assoc (f x) (joined f xs) (f b))

pub joined_append : (f : ℕ → List ℕ) (xs ys : List ℕ) → joined f (xs ++ ys) ≡ joined f xs ++ joined f ys
unfolding joined
joined_append f [] ys = refl
joined_append f (x ∷ xs) ys = ap (λ (l : List ℕ). f x ++ l) (joined_append f xs ys) ∙ sym (append_assoc (f x) (joined f xs) (joined f ys))

pub laying_none : (f : ℕ → List ℕ) (B R : List ℕ) → Laying f B R R 0 0
unfolding joined
laying_none f B R = record { turn = omega arith; done = nothing_laid R [] refl }

module _ (f : ℕ → List ℕ) (B R₀ R : List ℕ) (j e : ℕ) (g : Laying f B R₀ R j e) where
  pub laying_end : length B ≤ j → Filled R₀ R (joined f B) (Some e)
  laying_end h = rw (take_all j B h) at g.done

  module _ (lt : j < length B) (X new : List ℕ) (en : new ≡ f (get_or B j 0)) where
    pub turned : joined f (take (j + 1) B) ≡ joined f (take j B) ++ new
    turned = rw (add-one j, take-suc B j 0 lt, en) (joined_snoc f (take j B) (get_or B j 0))

    pub laying_more : (n : ℕ) → Filled (left_of e R) X new (Some n) → Laying f B R₀ (behind e R X) (j + 1) (e + n)
    laying_more n b = record { turn = omega arith; done = rw turned (then_some R₀ R (joined f (take j B)) e g.done X new n b) }

    pub laying_full : Filled (left_of e R) X new None → Filled R₀ (behind e R X) (joined f B) None
    laying_full b =
        let a = then_none R₀ R (joined f (take j B)) e g.done X new b in
        let w : joined f B ≡ (joined f (take j B) ++ new) ++ joined f (drop (j + 1) B) = ap (joined f) (sym (take-append-drop (j + 1) B)) ∙ joined_append f (take (j + 1) B) (drop (j + 1) B) ∙ ap (λ (l : List ℕ). l ++ joined f (drop (j + 1) B)) turned in
        rw w (then_full R₀ (behind e R X) (joined f (take j B) ++ new) a (joined f (drop (j + 1) B)))

-- offers counted: j records are done
pub record Tallying (f : ℕ → ℕ) (B : List ℕ) (j : ℕ) (t : Offers) : Type 0 where
  pub few : t.n ≤ j
  pub rest : tally f no_offers B ≡ tally f t (drop j B)

tally-pick : (b : Bool) (t : Offers) (w : ℕ) → (pick b t (record { n = t.n + 1; last = w })).n ≤ t.n + 1
tally-pick true t w = omega arith
tally-pick false t w = omega arith

pub tally_small : (t r : Offers) (w : ℕ) → r ≡ tally_one t w → r.n ≤ t.n + 1
unfolding tally_one
tally_small t r w h = rw h (tally-pick (eqb w NONE) t w)

pub tallying_none : (f : ℕ → ℕ) (B : List ℕ) → Tallying f B 0 no_offers
tallying_none f B = record { few = omega arith; rest = refl }

module _ (f : ℕ → ℕ) (B : List ℕ) (j : ℕ) (t : Offers) (g : Tallying f B j t) where
  pub tallying_more : (w : ℕ) (r : Offers) → j < length B → w ≡ f (get_or B j 0) → r ≡ tally_one t w → Tallying f B (j + 1) r
  unfolding tally
  tallying_more w r h e q =
      let a : drop j B ≡ get_or B j 0 ∷ drop (suc j) B = drop-cons B j 0 h in
      record { few = omega (arith, tally_small t r w q, g.few); rest = g.rest ∙ rw (a, add-one j, q, e) }

  pub tallying_end : length B ≤ j → t ≡ tally f no_offers B
  unfolding tally
  tallying_end h =
      let a : drop j B ≡ [] = drop_of_length-le B {i = j} h in
      sym (g.rest ∙ rw a)

-- offers are counted as they are listed
pub one_n : (t : Offers) (w : ℕ) → (tally_one t w).n ≡ t.n + length (keep_one w)
unfolding tally_one keep_one
one_n t w = choose (eqb w NONE)
  where
    choose : (c : Bool) → (pick c t (record { n = t.n + 1; last = w })).n ≡ t.n + length (pick c [] (w ∷ []))
    choose true = omega arith
    choose false = refl

pub tally_n : (f : ℕ → ℕ) (offered : ℕ → List ℕ) → ((b : ℕ) → offered b ≡ keep_one (f b)) → (t : Offers) (bs : List ℕ) → (tally f t bs).n ≡ t.n + length (joined offered bs)
unfolding tally joined
tally_n f offered h t [] = omega arith
tally_n f offered h t (b ∷ bs) = omega (arith, tally_n f offered h (tally_one t (f b)) bs, one_n t (f b), length-append (offered b) (joined offered bs), ap length (h b))

pub offered_at : (N S : List ℕ) (names : Bool) (b w : ℕ) → w ≡ offer_of N S names b → keep_one w ≡ offered_of N S names b
unfolding offered_of
offered_at N S names b w e = ap keep_one e

-- pairs as links
module _ (R R' : List ℕ) (ps : List (Pair ℕ)) where
  pub pairs_full : Placed R R' ps None → Filled R R' (flat_pairs ps) None
  pairs_full p = filled-none R R' (flat_pairs ps) (omega (arith, p.full refl, flat_length ps)) p.long

  pub pairs-laid : (n : ℕ) → Placed R R' ps (Some n) → Filled R R' (flat_pairs ps) (Some (n * 2))
  pairs-laid n p =
      let w = placed_words R R' ps n p in
      filled-some R R' (flat_pairs ps) (n * 2) w.1 (p.room n refl) w.0 p.long

-- joins
module _ (R R' : List ℕ) (n : ℕ) (offered : List ℕ) (own : ℕ) where
  pub join_few : n < 2 → Filled R R (join_words n offered own) (Some 0)
  unfolding join_words
  join_few h = nothing_laid R _ (rw (lt-ltb n 2 h))

  pub join_many : 2 ≤ n → (r : Option ℕ) → Filled R R' (offered ++ keep_one own) r → Filled R R' (join_words n offered own) r
  unfolding join_words
  join_many h r a = rw (le-ltb n 2 h) a

-- closed
abbrev pub is_closed : List ℕ → ℕ → Bool
is_closed S b = eqb (object_closed S b) 1

pub closed_yes : (S : List ℕ) (own : Bool) (bs : List ℕ) → list_any (is_closed S) bs ≡ true → true ≡ closed_of S own bs
unfolding closed_of
closed_yes S own [] h = absurd cc
closed_yes S own (b ∷ bs) h = choose (is_closed S b) (closed_yes S own bs) h
  where
    choose : (c : Bool) → (list_any (is_closed S) bs ≡ true → true ≡ closed_of S own bs) → (c || list_any (is_closed S) bs) ≡ true → true ≡ either c (closed_of S own bs)
    choose true f z = refl
    choose false f z = f z

pub closed_no : (S : List ℕ) (own : Bool) (bs : List ℕ) → list_any (is_closed S) bs ≡ false → own ≡ closed_of S own bs
unfolding closed_of
closed_no S own [] h = refl
closed_no S own (b ∷ bs) h = choose (is_closed S b) (closed_no S own bs) h
  where
    choose : (c : Bool) → (list_any (is_closed S) bs ≡ false → own ≡ closed_of S own bs) → (c || list_any (is_closed S) bs) ≡ false → own ≡ either c (closed_of S own bs)
    choose true f z = absurd cc
    choose false f z = f z

-- the lists of a merged object: each stands after those before it
pub counted_some : (p q r a n : List ℕ) (x : Lists) → length p ≡ x.properties → length q ≡ x.patterns → length r ≡ x.required → length a ≡ x.additional → length n ≡ x.names → Counted p q r a n (Some x)
counted_some p q r a n x ep eq er ea en =
    record {
      properties = λ y e. (let z : x ≡ y = cc in rw (← z) ep);
      patterns = λ y e. (let z : x ≡ y = cc in rw (← z) eq);
      required = λ y e. (let z : x ≡ y = cc in rw (← z) er);
      additional = λ y e. (let z : x ≡ y = cc in rw (← z) ea);
      names = λ y e. (let z : x ≡ y = cc in rw (← z) en);
    }

module _ (R P Q S A N R₁ R₂ R₃ R₄ R₅ : List ℕ) (p q s a n : ℕ) where
  pub listed : Filled R R₁ P (Some p) → Filled (left_of p R₁) R₂ Q (Some q) → Filled (left_of q R₂) R₃ S (Some s) → Filled (left_of s R₃) R₄ A (Some a) → Filled (left_of a R₄) R₅ N (Some n) → Listed R (behind p R₁ (behind q R₂ (behind s R₃ (behind a R₄ R₅)))) P Q S A N (Some (record { properties = p; patterns = q; required = s; additional = a; names = n }))
  listed d₁ d₂ d₃ d₄ d₅ =
      let w : (((P ++ Q) ++ S) ++ A) ++ N ≡ P ++ (Q ++ (S ++ (A ++ N))) = simp append_assoc in
      let m : p + q + s + a + n ≡ p + (q + (s + (a + n))) = omega arith in
      record {
        filled =
            rw (w, m)
            (then_some R R₁ P p d₁ _ _ _
            (then_some _ R₂ Q q d₂ _ _ _
            (then_some _ R₃ S s d₃ _ _ _ (then_some _ R₄ A a d₄ R₅ N n d₅))));
        counted = counted_some P Q S A N _ (d₁.count p refl) (d₂.count q refl) (d₃.count s refl) (d₄.count a refl) (d₅.count n refl);
      }

-- no room behind `at`: nothing is laid
linked_none : (L : List ℕ) (at : ℕ) (p q r a n : List ℕ) → ((k : ℕ) → room most_links (length L) at k ≡ false) → Linked L L at p q r a n None
linked_none L at p q r a n h =
    record {
      laid =
          record {
            fits = λ m e. absurd cc;
            count = λ m e. absurd cc;
            grown = λ m e. absurd cc;
            full = λ _. h (length ((((p ++ q) ++ r) ++ a) ++ n));
            kept = refl;
            long = refl;
          };
      counted = record { properties = λ y e. absurd cc; patterns = λ y e. absurd cc; required = λ y e. absurd cc; additional = λ y e. absurd cc; names = λ y e. absurd cc };
    }

pub linked_full : (L : List ℕ) (at : ℕ) (p q r a n : List ℕ) → most_links < at → Linked L L at p q r a n None
linked_full L at p q r a n h = linked_none L at p q r a n (λ k. room_full most_links (length L) at k (omega arith))

pub linked_short : (L : List ℕ) (at : ℕ) (p q r a n : List ℕ) → length L < at → Linked L L at p q r a n None
linked_short L at p q r a n h = linked_none L at p q r a n (λ k. room_short most_links (length L) at k (omega arith))

-- the links before `at`, and behind it as many as may be used
module _ (L A B R : List ℕ) (at most : ℕ) (ea : A ≡ take at L) (eb : B ≡ drop at L) (h : at ≤ length L) (m₁ : most ≤ length B) (m₂ : at + most ≤ most_links) (m₃ : (k : ℕ) → at + k ≤ most_links → at + k ≤ length L → k ≤ most) where
  cut-length : length (take most B) ≡ most
  cut-length = length-take-le most B m₁

  front-length : length A ≡ at
  front-length = ap length ea ∙ length-take-le at L h

  back-length : at + length B ≡ length L
  back-length = omega (arith, ap length eb, length-drop at L)

  laid : (new : List ℕ) (r : Option ℕ) → Filled (take most B) R new r → Laid L (A ++ (R ++ drop most B)) at new r
  laid new r f =
      let Z : List ℕ = drop most B in
      record {
        fits = λ n e. room-yes most_links (length L) at (length new) (omega (arith, f.count n e, f.fits n e, cut-length)) (omega (arith, f.count n e, f.fits n e, cut-length, back-length));
        count = f.count;
        grown = λ n e.
            ap (λ (m : ℕ). take (m + n) (A ++ (R ++ Z))) (sym front-length) ∙ take-append-add A (R ++ Z) n ∙ ap (λ (l : List ℕ). A ++ l) (take-append-le n R Z (omega (arith, f.fits n e, f.long))) ∙ rw (ea, f.front n e);
        full = λ e. none_left (room most_links (length L) at (length new)) refl (f.full e);
        kept = take_at A (R ++ Z) at front-length ∙ ea;
        long = omega (arith, length-append A (R ++ Z), length-append R Z, front-length, f.long, cut-length, back-length, length-drop most B);
      }
    where
      none_left : (t : Bool) → room most_links (length L) at (length new) ≡ t → length (take most B) < length new → t ≡ false
      none_left true e z = absurd (omega (arith, cut-length, m₃ (length new) (room_limit most_links (length L) at (length new) e) (room_lent most_links (length L) at (length new) e)))
      none_left false e z = refl

  pub linked : (p q r a n : List ℕ) (x : Option Lists) → Listed (take most B) R p q r a n x → Linked L (A ++ (R ++ drop most B)) at p q r a n x
  linked p q r a n x l = record { laid = laid ((((p ++ q) ++ r) ++ a) ++ n) (total x) l.filled; counted = l.counted }
