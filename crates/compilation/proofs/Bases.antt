-- Merging bases into an object: the pieces over the tables are those that `gather` and `derive` give. Assumes nothing.
use Prim.Native.Nat.{ℕ}
use mathlib.Core.Path.{◌≡◌, refl, sym, ap, ◌∙◌}
use mathlib.Core.Bool.{Bool, true, false, ◌||◌}
use mathlib.Core.List.{List, [], ◌∷◌, ◌++◌, append-nil}
use mathlib.Core.Logic.{⊎_elim}
use mathlib.Core.Option.{Option, some, none}
use native.Mathlib.Omega.{arith}
use lib.ListN.{length, length-append}
use lib.Dec.{eqb, leb}
use borrow.Author.Tests.{eqb-true}
use Rattle.text.specs.Choice.{pick, true_or_false}
use Rattle.text.specs.Text.{same_text}
use Rattle.layout.specs.Layout.{NONE, schema_kind, schema_note, properties_first, properties_count, pattern_properties_first, pattern_properties_count, additional_properties, object_closed, property_names, note_word}
use Rattle.schema.specs.Shape.{Own, nameless, detects, named, Object, Shape, plain}
use Rattle.schema.specs.Look.{Words, note_at, note_detects, own_of, object_of, raw, detecting, sort_names}
use Rattle.merge.specs.Merge.{put_all, ◌⊕◌, counting, Gathered, start, gather, note_of, derive, description_of}
use Rattle.merge.specs.Pairs.{record_pairs}
use Rattle.merge.proofs.Lists.{pairs_are}
use Rattle.joins.specs.Joins.{note_field, detects_case, offer_of, keep_one, required_of, joined, offered_of, no_offers, tally, closed_of}
use Rattle.joins.proofs.Laws.{one_n, tally_n}
use Rattle.joins.proofs.Gathered.{listed, listed_join, keep_listed, objects, gather_props, gather_patterns, gather_required, gather_additional, gather-names}
use Rattle.compilation.specs.State.{Source, State}
use Rattle.compilation.specs.Table.{field, merged_note, merged_note_in, merged_pairs, offers_at, join_links_at, required_at, merge_at}
use Rattle.compilation.specs.Compile.{Room, note_words_of, add_merged}
use Rattle.compilation.proofs.Grows.{Grown}
use Rattle.compilation.proofs.Same.{words_in, Same, same_as, Rooms}
use Rattle.compilation.proofs.Looked.{seen}
use Rattle.compilation.proofs.Joined.{read_note, last_or, last_append, laid, join_laid, one_last, tally_last, gather_closed, gathered-note}
use Rattle.compilation.proofs.Merged.{merged_from_lem, merged_parts, merged_at, merged_links, merged_same}

-- what the source says of an object
pub record Says (C : Source) (s : ℕ) (o : Object ℕ) : Type 0 where
  pub props : o.props ≡ record_pairs C.schemas C.links 2 s
  pub patterns : o.patterns ≡ record_pairs C.schemas C.links 4 s
  pub additional : o.additional ≡ listed (keep_one (field C s 6))
  pub required : o.required ≡ required_of C.schemas C.links s
  pub least : o.least ≡ field C s 9
  pub most : o.most ≡ field C s 10
  pub closed : o.closed ≡ eqb (field C s 11) 1
  pub naming : o.naming ≡ field C s 13
  pub description : description_of o.note ≡ note_field C.notes C.schemas s 1

-- only a string schema detects case
no_detecting : (w : Own) (x1 x2 x3 x4 x5 : Shape ℕ) → eqb w.kind 3 ≡ false → detecting x1 ≡ false → detecting x2 ≡ false → detecting x3 ≡ false → detecting x4 ≡ false → detecting x5 ≡ false → (a b c d e : Bool) → detecting (pick a (plain w) (pick b x1 (pick c x2 (pick d x3 (pick e x4 x5))))) ≡ false
unfolding detecting
no_detecting w x1 x2 x3 x4 x5 h h1 h2 h3 h4 h5 true b c d e = rw h
no_detecting w x1 x2 x3 x4 x5 h h1 h2 h3 h4 h5 false true c d e = h1
no_detecting w x1 x2 x3 x4 x5 h h1 h2 h3 h4 h5 false false true d e = h2
no_detecting w x1 x2 x3 x4 x5 h h1 h2 h3 h4 h5 false false false true e = h3
no_detecting w x1 x2 x3 x4 x5 h h1 h2 h3 h4 h5 false false false false true = h4
no_detecting w x1 x2 x3 x4 x5 h h1 h2 h3 h4 h5 false false false false false = h5

-- names that count, as what is offered
names_offered : (f : ℕ → Bool) (w : ℕ) (c : Bool) → f w ≡ c → counting (sort_names f (pick (eqb w NONE) nameless (named (w ∷ [])))) ≡ listed (keep_one (pick c NONE w))
unfolding sort_names keep_one
names_offered f w c e = choose (eqb w NONE) refl
  where
    none_offered : (c : Bool) → none ≡ listed (keep_one (pick c NONE NONE))
    none_offered true = refl
    none_offered false = refl

    one_offered : (c : Bool) → eqb w NONE ≡ false → counting (pick c (detects w) (named (w ∷ []))) ≡ listed (keep_one (pick c NONE w))
    one_offered true h = refl
    one_offered false h = rw h

    choose : (x : Bool) → eqb w NONE ≡ x → counting (sort_names f (pick x nameless (named (w ∷ [])))) ≡ listed (keep_one (pick c NONE w))
    choose true h = rw (eqb-true w NONE h) (none_offered c)
    choose false h = rw e (one_offered c h)

-- what a base's record says
module _ (t : Words) (b : ℕ) where
  pub seen_props : (seen t b).props ≡ record_pairs t.schemas t.links 2 b
  unfolding object_of record_pairs
  seen_props = pairs_are t.links (properties_first t.schemas b) (properties_count t.schemas b)

  pub seen_patterns : (seen t b).patterns ≡ record_pairs t.schemas t.links 4 b
  unfolding object_of record_pairs
  seen_patterns = pairs_are t.links (pattern_properties_first t.schemas b) (pattern_properties_count t.schemas b)

  seen_required : (seen t b).required ≡ required_of t.schemas t.links b
  unfolding object_of required_of
  seen_required = refl

  seen_additional : (seen t b).additional ≡ listed (offered_of t.notes t.schemas false b)
  unfolding object_of offered_of offer_of
  seen_additional = keep_listed (additional_properties t.schemas b)

  seen_closed : (seen t b).closed ≡ eqb (object_closed t.schemas b) 1
  unfolding object_of
  seen_closed = refl

  seen_note : (seen t b).note ≡ note_at t.notes (schema_note t.schemas b)
  unfolding object_of
  seen_note = refl

  -- "a string schema with case-detection"
  note-detects : note_detects (note_at t.notes (schema_note t.schemas b)) ≡ eqb (note_field t.notes t.schemas b 8) 1
  unfolding note_at note_field note_word
  note-detects = choose (eqb (schema_note t.schemas b) NONE)
    where
      choose : (c : Bool) → note_detects (pick c none (some (read_note t.notes (schema_note t.schemas b)))) ≡ eqb (pick c NONE (note_word t.notes (schema_note t.schemas b) 8)) 1
      choose true = refl
      choose false = refl

  detecting_is : detecting (raw t b) ≡ detects_case t.notes t.schemas b
  unfolding detecting raw detects_case own_of
  detecting_is =
      ⊎_elim
      (λ h. let e = eqb-true (schema_kind t.schemas b) 3 h in rw e note-detects)
      (λ h. rw h (no_detecting (own_of t b) _ _ _ _ _ h refl refl refl refl refl (leb (schema_kind t.schemas b) 6) (eqb (schema_kind t.schemas b) 7) (eqb (schema_kind t.schemas b) 8) (eqb (schema_kind t.schemas b) 9) (eqb (schema_kind t.schemas b) 10)))
      (true_or_false (eqb (schema_kind t.schemas b) 3))

module _ (t : Words) (b : ℕ) where
  seen_names : counting (seen t b).names ≡ listed (offered_of t.notes t.schemas true b)
  unfolding object_of offered_of offer_of
  seen_names = names_offered (λ n. detecting (raw t n)) (property_names t.schemas b) (detects_case t.notes t.schemas (property_names t.schemas b)) (detecting_is t (property_names t.schemas b))

module _ {C : Source} {R : Room} (rooms : Rooms C R) (find : ℕ → Option ℕ) (st : State) (g : Grown C st) (s : ℕ) (d : Object ℕ) (says : Says C s d) (bs : List ℕ) where
  abbrev same : ℕ → ℕ → Bool
  same = same_text C.pool C.texts

  abbrev t : Words
  t = words_in st

  abbrev all : Gathered ℕ
  all = gather same start (objects (seen t) bs)

  -- what is offered, and what the join is made of
  offers_n : (names : Bool) (own : ℕ) → (offers_at st names bs own).n ≡ length (joined (offered_of st.notes st.schemas names) bs ++ keep_one own)
  unfolding offered_of
  offers_n names own =
      omega (arith, one_n (tally (offer_of st.notes st.schemas names) no_offers bs) own, tally_n (offer_of st.notes st.schemas names) (offered_of st.notes st.schemas names) (λ b. refl) no_offers bs, length-append (joined (offered_of st.notes st.schemas names) bs) (keep_one own))

  offers_last : (names : Bool) (own : ℕ) → (offers_at st names bs own).last ≡ last_or NONE (joined (offered_of st.notes st.schemas names) bs ++ keep_one own)
  unfolding offered_of
  offers_last names own =
      one_last (tally (offer_of st.notes st.schemas names) no_offers bs) own
      ∙ ap (λ (w : ℕ). last_or w (keep_one own)) (tally_last (offer_of st.notes st.schemas names) (offered_of st.notes st.schemas names) (λ b. refl) no_offers bs)
      ∙ sym (last_append NONE (joined (offered_of st.notes st.schemas names) bs) (keep_one own))

  links-laid : (names : Bool) (own : ℕ) → join_links_at st names bs own ≡ laid (joined (offered_of st.notes st.schemas names) bs ++ keep_one own)
  links-laid names own = join_laid (offers_at st names bs own).n (joined (offered_of st.notes st.schemas names) bs) own (joined (offered_of st.notes st.schemas names) bs ++ keep_one own) refl (offers_n names own)

  -- the parts of the merged object
  props_are : put_all same all.props d.props ≡ merged_pairs C st s bs 2
  unfolding merged_pairs
  props_are = rw (gather_props same (seen t) (record_pairs st.schemas st.links 2) (λ b. seen_props t b) start bs, says.props)

  patterns_are : put_all same all.patterns d.patterns ≡ merged_pairs C st s bs 4
  unfolding merged_pairs
  patterns_are = rw (gather_patterns same (seen t) (record_pairs st.schemas st.links 4) (λ b. seen_patterns t b) start bs, says.patterns)

  required_is : all.required ++ d.required ≡ required_at C st s bs
  required_is = rw (gather_required same (seen t) (required_of st.schemas st.links) (λ b. seen_required t b) start bs, says.required)

  additional_is : all.additional ⊕ d.additional ≡ listed (joined (offered_of st.notes st.schemas false) bs ++ keep_one (field C s 6))
  additional_is =
      rw (gather_additional same (seen t) (offered_of st.notes st.schemas false) (λ b. seen_additional t b) [] start refl bs, says.additional)
      (listed_join (joined (offered_of st.notes st.schemas false) bs) (keep_one (field C s 6)))

  names_are : all.names ≡ listed (joined (offered_of st.notes st.schemas true) bs ++ keep_one NONE)
  unfolding keep_one
  names_are =
      gather-names same (seen t) (offered_of st.notes st.schemas true) (λ b. seen_names t b) [] start refl bs
      ∙ ap listed (sym (append-nil (joined (offered_of st.notes st.schemas true) bs)))

  closed_is : all.closed || d.closed ≡ closed_of st.schemas (eqb (field C s 11) 1) bs
  closed_is = gather_closed same (seen t) st.schemas (λ b. seen_closed t b) d.closed start bs ∙ ap (λ (c : Bool). closed_of st.schemas c bs) says.closed

  note_is : note_words_of (note_of all.note d.note) ≡ merged_note C st s bs
  unfolding merged_note
  note_is = gathered-note same (seen t) st.notes st.schemas (λ b. seen_note t b) C.notes C.schemas s d.note says.description bs

  over_tables : merge_at C st s bs ≡ merged_at C st (merged_note C st s bs) (merged_pairs C st s bs 2) (merged_pairs C st s bs 4) (required_at C st s bs) (join_links_at st false bs (field C s 6)) (join_links_at st true bs NONE) (offers_at st false bs (field C s 6)) (offers_at st true bs NONE) (field C s 9) (field C s 10) (pick (closed_of st.schemas (eqb (field C s 11) 1) bs) 1 0) (field C s 13)
  unfolding merge_at merged_at
  over_tables = refl

  nine_words : length (merged_note C st s bs) ≡ 9
  unfolding merged_note merged_note_in
  nine_words = refl

  pub bases_merged : Same C (merge_at C st s bs) (add_merged R same find (note_of all.note d.note) all.names (derive same all d) t)
  bases_merged =
      let a : ℕ = field C s 6 in
      same_as
      (over_tables ∙ merged_links C st (merged_note C st s bs) (merged_pairs C st s bs 2) (merged_pairs C st s bs 4) (required_at C st s bs) (links-laid false a) (links-laid true NONE) (offers_at st false bs a) (offers_at st true bs NONE) (field C s 9) (field C s 10) (pick (closed_of st.schemas (eqb (field C s 11) 1) bs) 1 0) (field C s 13))
      (merged_from_lem R same find (note_of all.note d.note) all.names (derive same all d) t
      ∙ merged_parts R same find note_is props_are patterns_are required_is additional_is names_are says.least says.most (ap (λ (c : Bool). pick c 1 0) closed_is) says.naming t)
      (merged_same rooms same find st g (merged_note C st s bs) nine_words (merged_pairs C st s bs 2) (merged_pairs C st s bs 4) (required_at C st s bs)
      (joined (offered_of st.notes st.schemas false) bs ++ keep_one a) (joined (offered_of st.notes st.schemas true) bs ++ keep_one NONE)
      (offers_at st false bs a) (offers_at st true bs NONE) (offers_n false a) (offers_last false a) (offers_n true NONE) (offers_last true NONE)
      (field C s 9) (field C s 10) (pick (closed_of st.schemas (eqb (field C s 11) 1) bs) 1 0) (field C s 13))
