-- What bases give together, part by part: closed, the note, and what is offered to a join. Assumes nothing.
use Prim.Native.Nat.{ℕ, ◌+◌, ◌*◌}
use mathlib.Core.Path.{◌≡◌, refl, sym, ap, ◌∙◌}
use mathlib.Core.Bool.{Bool, true, false, ◌||◌}
use mathlib.Core.List.{List, [], ◌∷◌, ◌++◌}
use mathlib.Core.Option.{Option, some, none}
use native.Mathlib.Omega.{arith}
use lib.ListN.{length, get_or}
use lib.Dec.{eqb, ltb}
use borrow.Author.Tests.{le-ltb}
use Rattle.text.specs.Choice.{pick, either}
use Rattle.layout.specs.Layout.{NONE, schema_note, object_closed, note_word, note_id, note_description, note_documentation, note_error_message, note_hidden, note_completions, note_additional_completions, note_tags, note_case_detection}
use Rattle.schema.specs.Shape.{Note, Object}
use Rattle.schema.specs.Look.{note_at}
use Rattle.merge.specs.Merge.{later, with_tags, Kept, nothing, kept, over, description_of, note_of, Gathered, start, add, gather}
use Rattle.joins.specs.declared.Offers.{Offers}
use Rattle.joins.specs.Joins.{note_field, keep_one, joined, tally_one, tally, join_words, closed_of}
use Rattle.joins.proofs.Gathered.{objects}
use Rattle.compilation.specs.Table.{last_word, merged_note_in}
use Rattle.compilation.specs.Compile.{note_words_of}

or_either : (a c x : Bool) → (a || c) || x ≡ a || either c x
or_either true c x = refl
or_either false true x = refl
or_either false false x = refl

module _ (eq : ℕ → ℕ → Bool) (o : ℕ → Object ℕ) where
  -- "closed: any"
  pub gather_closed : (S : List ℕ) → ((b : ℕ) → (o b).closed ≡ eqb (object_closed S b) 1) → (own : Bool) (g : Gathered ℕ) (bs : List ℕ) → (gather eq g (objects o bs)).closed || own ≡ g.closed || closed_of S own bs
  unfolding gather objects closed_of
  gather_closed S h own g [] = refl
  gather_closed S h own g (b ∷ bs) =
      gather_closed S h own (add eq g (o b)) bs ∙ or_either g.closed (o b).closed (closed_of S own bs) ∙ ap (λ (c : Bool). g.closed || either c (closed_of S own bs)) (h b)

  module _ (N S : List ℕ) where
    -- a field of the note: the last that is present
    pub gather-field : (f : Kept → ℕ) (k : ℕ) → ((x y : Kept) → f (over x y) ≡ later (f x) (f y)) → ((b : ℕ) → f (kept (o b).note) ≡ note_field N S b k) → (g : Gathered ℕ) (bs : List ℕ) → f (gather eq g (objects o bs)).note ≡ last_word N S k k (f g.note) bs
    unfolding gather objects last_word later
    gather-field f k h e g [] = refl
    gather-field f k h e g (b ∷ bs) =
        gather-field f k h e (add eq g (o b)) bs ∙ ap (λ (d : ℕ). last_word N S k k d bs) (h g.note (kept (o b).note) ∙ ap (λ (w : ℕ). later (f g.note) w) (e b))

    -- "case-detection goes with tags"
    pub gather-detection : ((b d : ℕ) → with_tags d (kept (o b).note).tags (kept (o b).note).detection ≡ pick (eqb (note_field N S b 7) NONE) d (note_field N S b 8)) → (g : Gathered ℕ) (bs : List ℕ) → (gather eq g (objects o bs)).note.detection ≡ last_word N S 7 8 g.note.detection bs
    unfolding gather objects last_word
    gather-detection h g [] = refl
    gather-detection h g (b ∷ bs) =
        gather-detection h (add eq g (o b)) bs ∙ ap (λ (d : ℕ). last_word N S 7 8 d bs) (h b g.note.detection)

-- a note as it stands
abbrev pub read_note : List ℕ → ℕ → Note
read_note N n =
    record {
      id = note_id N n;
      description = note_description N n;
      documentation = note_documentation N n;
      message = note_error_message N n;
      hidden = note_hidden N n;
      completions = note_completions N n;
      more = note_additional_completions N n;
      tags = note_tags N n;
      detection = note_case_detection N n;
    }

-- its fields as words; NONE where there is no note
module _ (N S : List ℕ) (b : ℕ) where
  kept_word : (f : Kept → ℕ) (k : ℕ) → f nothing ≡ NONE → f (kept (some (read_note N (schema_note S b)))) ≡ note_word N (schema_note S b) k → f (kept (note_at N (schema_note S b))) ≡ note_field N S b k
  unfolding note_at note_field note_word
  kept_word f k e h = choose (eqb (schema_note S b) NONE)
    where
      choose : (c : Bool) → f (kept (pick c none (some (read_note N (schema_note S b))))) ≡ pick c NONE (get_or N (schema_note S b * 9 + k) 0)
      choose true = e
      choose false = h

  pub detection_word : (d : ℕ) → with_tags d (kept (note_at N (schema_note S b))).tags (kept (note_at N (schema_note S b))).detection ≡ pick (eqb (note_field N S b 7) NONE) d (note_field N S b 8)
  unfolding note_at note_field note_word with_tags
  detection_word d = choose (eqb (schema_note S b) NONE)
    where
      choose : (c : Bool) → with_tags d (kept (pick c none (some (read_note N (schema_note S b))))).tags (kept (pick c none (some (read_note N (schema_note S b))))).detection ≡ pick (eqb (pick c NONE (get_or N (schema_note S b * 9 + 7) 0)) NONE) d (pick c NONE (get_or N (schema_note S b * 9 + 8) 0))
      choose true = refl
      choose false = refl

-- the note that a merged object gets
pub gathered-note : (eq : ℕ → ℕ → Bool) (o : ℕ → Object ℕ) (N S : List ℕ) → ((b : ℕ) → (o b).note ≡ note_at N (schema_note S b)) → (N₀ S₀ : List ℕ) (s : ℕ) (d : Option Note) → description_of d ≡ note_field N₀ S₀ s 1 → (bs : List ℕ) → note_words_of (note_of (gather eq start (objects o bs)).note d) ≡ merged_note_in N₀ S₀ N S s bs
unfolding merged_note_in later
gathered-note eq o N S h N₀ S₀ s d e bs =
    let field : (f : Kept → ℕ) (k : ℕ) → ((x y : Kept) → f (over x y) ≡ later (f x) (f y)) → f nothing ≡ NONE → ((b : ℕ) → f (kept (some (read_note N (schema_note S b)))) ≡ note_word N (schema_note S b) k) → f (gather eq start (objects o bs)).note ≡ last_word N S k k NONE bs =
    λ f k l z r. gather-field eq o N S f k l (λ b. ap (λ (n : Option Note). f (kept n)) (h b) ∙ kept_word N S b f k z (r b)) start bs ∙ ap (λ (d : ℕ). last_word N S k k d bs) z in
    let f1 = field (λ x. x.description) 1 (λ x y. refl) refl (λ b. refl) in
    let f2 = field (λ x. x.documentation) 2 (λ x y. refl) refl (λ b. refl) in
    let f3 = field (λ x. x.message) 3 (λ x y. refl) refl (λ b. refl) in
    let f4 = field (λ x. x.hidden) 4 (λ x y. refl) refl (λ b. refl) in
    let f5 = field (λ x. x.completions) 5 (λ x y. refl) refl (λ b. refl) in
    let f6 = field (λ x. x.more) 6 (λ x y. refl) refl (λ b. refl) in
    let f7 = field (λ x. x.tags) 7 (λ x y. refl) refl (λ b. refl) in
    let f8 = gather-detection eq o N S (λ b d. ap (λ (n : Option Note). with_tags d (kept n).tags (kept n).detection) (h b) ∙ detection_word N S b d) start bs in
    rw (e, f1, f2, f3, f4, f5, f6, f7, f8)

-- the last of a list, or d
abbrev pub last_or : ℕ → List ℕ → ℕ
last_or d [] = d
last_or d (x ∷ xs) = last_or x xs

pub last_append : (d : ℕ) (xs ys : List ℕ) → last_or d (xs ++ ys) ≡ last_or (last_or d xs) ys
last_append d [] ys = refl
last_append d (x ∷ xs) ys = last_append x xs ys

pub one_last : (t : Offers) (w : ℕ) → (tally_one t w).last ≡ last_or t.last (keep_one w)
unfolding tally_one keep_one
one_last t w = choose (eqb w NONE)
  where
    choose : (c : Bool) → (pick c t (record { n = t.n + 1; last = w })).last ≡ last_or t.last (pick c [] (w ∷ []))
    choose true = refl
    choose false = refl

-- the last of what is offered
module _ (f : ℕ → ℕ) (offered : ℕ → List ℕ) (h : (b : ℕ) → offered b ≡ keep_one (f b)) where
  pub tally_last : (t : Offers) (bs : List ℕ) → (tally f t bs).last ≡ last_or t.last (joined offered bs)
  unfolding tally joined
  tally_last t [] = refl
  tally_last t (b ∷ bs) =
      tally_last (tally_one t (f b)) bs ∙ ap (λ (d : ℕ). last_or d (joined offered bs)) (one_last t (f b) ∙ ap (last_or t.last) (sym (h b))) ∙ sym (last_append t.last (offered b) (joined offered bs))

-- the links of a join: none where it is absent or one
abbrev pub laid : List ℕ → List ℕ
laid [] = []
laid (x ∷ []) = []
laid (x ∷ (y ∷ ys)) = x ∷ (y ∷ ys)

-- and where they start
abbrev pub place : List ℕ → ℕ → ℕ
place [] i = 0
place (x ∷ []) i = 0
place (x ∷ (y ∷ ys)) i = i

pub join_laid : (n : ℕ) (offered : List ℕ) (own : ℕ) (xs : List ℕ) → xs ≡ offered ++ keep_one own → n ≡ length xs → join_words n offered own ≡ laid xs
unfolding join_words
join_laid n offered own xs e h = rw (← e, h) (choose xs)
  where
    choose : (xs : List ℕ) → pick (ltb (length xs) 2) [] xs ≡ laid xs
    choose [] = refl
    choose (x ∷ []) = refl
    choose (x ∷ (y ∷ ys)) = rw (le-ltb (length (x ∷ (y ∷ ys))) 2 (omega arith))
