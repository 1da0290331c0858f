-- Lists laid one after the other, within the limit of the links. Assumes nothing.
use Prim.Native.Nat.{ℕ, ◌+◌, ◌-◌, ◌*◌, ◌≤◌, ◌<◌}
use mathlib.Core.Path.{◌≡◌, refl, sym, ap, ◌∙◌}
use mathlib.Core.Bool.{Bool, true, false}
use mathlib.Core.List.{List, [], ◌∷◌, ◌++◌, append_assoc}
use native.Mathlib.Omega.{arith}
use lib.ListN.{length, get_or, take, drop, set, length-append, length-drop}
use lib.Seq.{length-take-le, take_all, take-append-add}
use Rattle.std.proofs.lemmas.List.{take_at, take-append-drop}
use Rattle.std.specs.Prelude.{Option, Some, None}
use lib.Dec.{eqb}
use borrow.Author.Tests.{le-ltb}
use Rattle.text.specs.Choice.{pick}
use Rattle.layout.specs.Layout.{NONE, most_links}
use Rattle.append.specs.Append.{room}
use Rattle.append.proofs.Laws.{room-yes, room_limit, room_lent}
use Rattle.schema.specs.Look.{slice}
use Rattle.schema.proofs.Slices.{slice_begin}
use Rattle.schema.specs.Shape.{Pair}
use Rattle.merge.specs.Meets.{PlacedWithin}
use Rattle.merge.specs.Pairs.{flat_pairs}
use Rattle.merge.proofs.Laws.{flat_length}
use Rattle.merge.proofs.Limits as merging
use Rattle.joins.specs.declared.Lists.{Lists}
use Rattle.joins.specs.Joins.{keep_one, joined, join_words, total, Filled, FilledWithin, Laid, ListedWithin, Linked}
use Rattle.joins.proofs.Laws.{kept_some, slice-length, left_of, behind, left-length, behind-long, joined_append, counted_some}
use Rattle.joins.proofs.Laws as laws

-- the two cases of a result
pub filled-some : (at : ℕ) (R R' new : List ℕ) (n : ℕ) → length new ≡ n → n ≤ length R → at + n ≤ most_links → take n R' ≡ new → length R' ≡ length R → FilledWithin at R R' new (Some n)
filled-some at R R' new n c f t g l =
    record {
      count = λ m e. (let z : n ≡ m = cc in rw (← z) c);
      fits = λ m e. (let z : n ≡ m = cc in rw (← z) f);
      limit = λ m e. (let z : n ≡ m = cc in rw (← z) t);
      front = λ m e. (let z : n ≡ m = cc in rw (← z) g);
      full = λ e. absurd cc;
      long = l;
    }

pub filled-none : (at : ℕ) (R R' new : List ℕ) → (at + length new ≤ most_links → length R < length new) → length R' ≡ length R → FilledWithin at R R' new None
filled-none at R R' new f l =
    record {
      count = λ m e. absurd cc;
      fits = λ m e. absurd cc;
      limit = λ m e. absurd cc;
      front = λ m e. absurd cc;
      full = λ _. f;
      long = l;
    }

pub filled-past : (at : ℕ) (R new : List ℕ) → most_links < at → FilledWithin at R R new None
filled-past at R new h = filled-none at R R new (λ z. absurd (omega arith)) refl

-- what is laid is the same with the limit and without it
limited : (at : ℕ) (R R' new : List ℕ) (n : ℕ) → at + n ≤ most_links → Filled R R' new (Some n) → FilledWithin at R R' new (Some n)
limited at R R' new n t p = filled-some at R R' new n (p.count n refl) (p.fits n refl) t (p.front n refl) p.long

pub unlimited : (at : ℕ) (R R' new : List ℕ) (n : ℕ) → FilledWithin at R R' new (Some n) → Filled R R' new (Some n)
unlimited at R R' new n p = laws.filled-some R R' new n (p.count n refl) (p.fits n refl) (p.front n refl) p.long

-- lay_list_within after k turns
pub record Copying (at : ℕ) (L R₀ R : List ℕ) (first count k : ℕ) : Type 0 where
  pub turn : k ≤ count
  pub fits : count ≤ length R₀
  pub limit : at + count ≤ most_links
  pub long : length R ≡ length R₀
  pub rest : take k R ++ slice L (first + k) (count - k) ≡ slice L first count

pub copying_none : (at : ℕ) (L R : List ℕ) (first count : ℕ) → count ≤ length R → at + count ≤ most_links → Copying at L R R first count 0
copying_none at L R first count h l = record { turn = omega arith; fits = h; limit = l; long = refl; rest = slice_begin L first count }

module _ (at : ℕ) (L R₀ R : List ℕ) (first count k : ℕ) (g : Copying at L R₀ R first count k) where
  copying : laws.Copying L R₀ R first count k
  copying = record { turn = g.turn; fits = g.fits; long = g.long; rest = g.rest }

  pub copying_more : (w : ℕ) → k < count → w ≡ get_or L (first + k) 0 → Copying at L R₀ (set R k w) first count (k + 1)
  copying_more w lt e =
      let t = laws.copying_more L R₀ R first count k copying w lt e in
      record { turn = t.turn; fits = t.fits; limit = g.limit; long = t.long; rest = t.rest }

  pub copying_end : count ≤ k → FilledWithin at R₀ R (slice L first count) (Some count)
  copying_end h = limited at R₀ R (slice L first count) count g.limit (laws.copying_end L R₀ R first count k copying h)

pub list_short : (at : ℕ) (L R : List ℕ) (first count : ℕ) → (at + count ≤ most_links → length R < count) → FilledWithin at R R (slice L first count) None
list_short at L R first count h =
    filled-none at R R (slice L first count) (λ z. omega (arith, h (omega (arith, slice-length L first count)), slice-length L first count)) refl

pub nothing_laid : (at : ℕ) (R new : List ℕ) → at ≤ most_links → new ≡ [] → FilledWithin at R R new (Some 0)
nothing_laid at R new h e = limited at R R new 0 (omega arith) (laws.nothing_laid R new e)

kept_few : (w : ℕ) → length (keep_one w) ≤ 1
unfolding keep_one
kept_few w = choose (eqb w NONE)
  where
    choose : (c : Bool) → length (pick c [] (w ∷ [])) ≤ 1
    choose true = omega arith
    choose false = omega arith

-- an offer laid, or left out
module _ (at : ℕ) (R : List ℕ) (w : ℕ) where
  pub offer_left : at ≤ most_links → w ≡ NONE → FilledWithin at R R (keep_one w) (Some 0)
  offer_left t h = limited at R R (keep_one w) 0 (omega arith) (laws.offer_left R w h)

  pub offer_short : (w ≡ NONE → ⊥) → (at + 1 ≤ most_links → length R ≡ 0) → FilledWithin at R R (keep_one w) None
  offer_short h f =
      let e = ap length (kept_some w h) in
      filled-none at R R (keep_one w) (λ z. omega (arith, f (omega arith))) refl

  pub offer_laid : (w ≡ NONE → ⊥) → 1 ≤ length R → at + 1 ≤ most_links → FilledWithin at R (set R 0 w) (keep_one w) (Some 1)
  offer_laid h z t = limited at R (set R 0 w) (keep_one w) 1 t (laws.offer_laid R w h (λ e. omega arith))

  -- where the limit leaves room for one word, an offer meets only the room that is lent
  pub offer_unlimited : at + 1 ≤ most_links → (R' : List ℕ) (r : Option ℕ) → FilledWithin at R R' (keep_one w) r → Filled R R' (keep_one w) r
  offer_unlimited t R' r p =
      record { count = p.count; fits = p.fits; front = p.front; full = λ e. p.full e (omega (arith, kept_few w, t)); long = p.long }

-- two lists, one after the other
module _ (at : ℕ) (R₀ R x : List ℕ) where
  pub then_full : FilledWithin at R₀ R x None → (y : List ℕ) → FilledWithin at R₀ R (x ++ y) None
  then_full a y = filled-none at R₀ R (x ++ y) (λ z. omega (arith, a.full refl, length-append x y)) a.long

  module _ (e : ℕ) (a : FilledWithin at R₀ R x (Some e)) (X y : List ℕ) where
    before : Filled R₀ R x (Some e)
    before = unlimited at R₀ R x e a

    within : e ≤ length R
    within = omega (arith, a.fits e refl, a.long)

    pub then_fits : (n : ℕ) → FilledWithin (at + e) (left_of e R) X y (Some n) → e + n ≤ length R₀
    then_fits n b = laws.then_fits R₀ R x e before X y n (unlimited (at + e) (left_of e R) X y n b)

    pub then_some : (n : ℕ) → FilledWithin (at + e) (left_of e R) X y (Some n) → FilledWithin at R₀ (behind e R X) (x ++ y) (Some (e + n))
    then_some n b =
        limited at R₀ (behind e R X) (x ++ y) (e + n) (omega (arith, b.limit n refl))
        (laws.then_some R₀ R x e before X y n (unlimited (at + e) (left_of e R) X y n b))

    pub then_none : FilledWithin (at + e) (left_of e R) X y None → FilledWithin at R₀ (behind e R X) (x ++ y) None
    then_none b =
        filled-none at R₀ (behind e R X) (x ++ y)
        (λ z. omega (arith, b.full refl, left-length R X e within, length-append x y, a.count e refl, a.long))
        (behind-long R X e within b.long ∙ a.long)

-- the lists of a run of records laid one after the other: `f b` is the list of b; j records are done, and e is where the next list goes
pub record Laying (f : ℕ → List ℕ) (at : ℕ) (B R₀ R : List ℕ) (j e : ℕ) : Type 0 where
  pub turn : j ≤ length B
  pub done : FilledWithin at R₀ R (joined f (take j B)) (Some e)

pub laying_none : (f : ℕ → List ℕ) (at : ℕ) (B R : List ℕ) → at ≤ most_links → Laying f at B R R 0 0
unfolding joined
laying_none f at B R h = record { turn = omega arith; done = nothing_laid at R [] h refl }

module _ (f : ℕ → List ℕ) (at : ℕ) (B R₀ R : List ℕ) (j e : ℕ) (g : Laying f at B R₀ R j e) where
  laying : laws.Laying f B R₀ R j e
  laying = record { turn = g.turn; done = unlimited at R₀ R (joined f (take j B)) e g.done }

  pub laying_end : length B ≤ j → FilledWithin at R₀ R (joined f B) (Some e)
  laying_end h = rw (take_all j B h) at g.done

  module _ (lt : j < length B) (X new : List ℕ) (en : new ≡ f (get_or B j 0)) where
    pub laying_more : (n : ℕ) → FilledWithin (at + e) (left_of e R) X new (Some n) → Laying f at B R₀ (behind e R X) (j + 1) (e + n)
    laying_more n b =
        let t = laws.laying_more f B R₀ R j e laying lt X new en n (unlimited (at + e) (left_of e R) X new n b) in
        record { turn = t.turn; done = limited at R₀ (behind e R X) (joined f (take (j + 1) B)) (e + n) (omega (arith, b.limit n refl)) t.done }

    pub laying_full : FilledWithin (at + e) (left_of e R) X new None → FilledWithin at R₀ (behind e R X) (joined f B) None
    laying_full b =
        let a = then_none at R₀ R (joined f (take j B)) e g.done X new b in
        let t = laws.turned f B R₀ R j e laying lt X new en in
        let w : joined f B ≡ (joined f (take j B) ++ new) ++ joined f (drop (j + 1) B) = ap (joined f) (sym (take-append-drop (j + 1) B)) ∙ joined_append f (take (j + 1) B) (drop (j + 1) B) ∙ ap (λ (l : List ℕ). l ++ joined f (drop (j + 1) B)) t in
        rw w (then_full at R₀ (behind e R X) (joined f (take j B) ++ new) a (joined f (drop (j + 1) B)))

-- pairs as links
module _ (at : ℕ) (R R' : List ℕ) (ps : List (Pair ℕ)) where
  pub pairs_full : PlacedWithin at R R' ps None → FilledWithin at R R' (flat_pairs ps) None
  pairs_full p = filled-none at R R' (flat_pairs ps) (λ z. omega (arith, p.full refl, flat_length ps)) p.long

  pub pairs-laid : (n : ℕ) → PlacedWithin at R R' ps (Some n) → FilledWithin at R R' (flat_pairs ps) (Some (n * 2))
  pairs-laid n p =
      limited at R R' (flat_pairs ps) (n * 2) (p.limit n refl) (laws.pairs-laid R R' ps n (merging.unlimited at R R' ps n p))

-- joins
module _ (at : ℕ) (R R' : List ℕ) (n : ℕ) (offered : List ℕ) (own : ℕ) where
  pub join_few : at ≤ most_links → n < 2 → FilledWithin at R R (join_words n offered own) (Some 0)
  join_few t h = limited at R R (join_words n offered own) 0 (omega arith) (laws.join_few R R' n offered own h)

  pub join_many : 2 ≤ n → (r : Option ℕ) → FilledWithin at R R' (offered ++ keep_one own) r → FilledWithin at R R' (join_words n offered own) r
  unfolding join_words
  join_many h r a = rw (le-ltb n 2 h) a

-- lay_lists, list by list: each stands after those before it, within the limit
module _ (at : ℕ) (R P Q S A N R₁ R₂ R₃ R₄ R₅ : List ℕ) (p q s a n : ℕ) where
  pub listed : FilledWithin at R R₁ P (Some p) → FilledWithin (at + p) (left_of p R₁) R₂ Q (Some q) → FilledWithin (at + p + q) (left_of q R₂) R₃ S (Some s) → FilledWithin (at + p + q + s) (left_of s R₃) R₄ A (Some a) → FilledWithin (at + p + q + s + a) (left_of a R₄) R₅ N (Some n) → ListedWithin at R (behind p R₁ (behind q R₂ (behind s R₃ (behind a R₄ R₅)))) P Q S A N (Some (record { properties = p; patterns = q; required = s; additional = a; names = n }))
  listed d₁ d₂ d₃ d₄ d₅ =
      let w : (((P ++ Q) ++ S) ++ A) ++ N ≡ P ++ (Q ++ (S ++ (A ++ N))) = simp append_assoc in
      let m : p + q + s + a + n ≡ p + (q + (s + (a + n))) = omega arith in
      record {
        filled =
            rw (w, m)
            (then_some at R R₁ P p d₁ _ _ _
            (then_some _ _ R₂ Q q d₂ _ _ _
            (then_some _ _ R₃ S s d₃ _ _ _ (then_some _ _ R₄ A a d₄ R₅ N n d₅))));
        counted = counted_some P Q S A N _ (d₁.count p refl) (d₂.count q refl) (d₃.count s refl) (d₄.count a refl) (d₅.count n refl);
      }

-- the links before `at`, and those behind it
module _ (L A B R : List ℕ) (at : ℕ) (ea : A ≡ take at L) (eb : B ≡ drop at L) (h : at ≤ length L) where
  front-length : length A ≡ at
  front-length = ap length ea ∙ length-take-le at L h

  back-length : at + length B ≡ length L
  back-length = omega (arith, ap length eb, length-drop at L)

  laid : (new : List ℕ) (r : Option ℕ) → FilledWithin at B R new r → Laid L (A ++ R) at new r
  laid new r f =
      record {
        fits = λ n e. room-yes most_links (length L) at (length new) (omega (arith, f.count n e, f.limit n e)) (omega (arith, f.count n e, f.fits n e, back-length));
        count = f.count;
        grown = λ n e.
            ap (λ (m : ℕ). take (m + n) (A ++ R)) (sym front-length) ∙ take-append-add A R n ∙ rw (ea, f.front n e);
        full = λ e. none_left (room most_links (length L) at (length new)) refl (f.full e);
        kept = take_at A R at front-length ∙ ea;
        long = omega (arith, length-append A R, front-length, f.long, back-length);
      }
    where
      none_left : (t : Bool) → room most_links (length L) at (length new) ≡ t → (at + length new ≤ most_links → length B < length new) → t ≡ false
      none_left true e z = absurd (omega (arith, z (room_limit most_links (length L) at (length new) e), room_lent most_links (length L) at (length new) e, back-length))
      none_left false e z = refl

  pub linked : (p q r a n : List ℕ) (x : Option Lists) → ListedWithin at B R p q r a n x → Linked L (A ++ R) at p q r a n x
  linked p q r a n x l = record { laid = laid ((((p ++ q) ++ r) ++ a) ++ n) (total x) l.filled; counted = l.counted }
