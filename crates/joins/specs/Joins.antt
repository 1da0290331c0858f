-- Document 01, "Compiling": lists that merging joins, over the words of tables 3, 4 and 7. Assumes nothing.
use Rattle.std.specs.Prelude.{ℕ, ◌+◌, ◌≤◌, ◌<◌, ◌≡◌, Bool, true, false, List, [], ◌∷◌, ◌++◌, length, take, eqb, ltb, Option, Some, None}
use Rattle.text.specs.Choice.{pick, both, either}
use Rattle.layout.specs.Layout.{NONE, most_links, note_word, schema_kind, schema_note, additional_properties, property_names, required_first, required_count, object_closed}
use Rattle.append.specs.Append.{room}
use Rattle.schema.specs.Shape.{Pair}
use Rattle.schema.specs.Look.{slice}
use Rattle.merge.specs.Merge.{put_all}
use Rattle.merge.specs.Pairs.{flat_pairs, merge_all, record_pairs}
use Rattle.joins.specs.declared.Offers.{Offers}
use Rattle.joins.specs.declared.Lists.{Lists}

-- a word of a record's note; NONE where there is no note
unfoldable pub note_field : List ℕ → List ℕ → ℕ → ℕ → ℕ
note_field N S b k = pick (eqb (schema_note S b) NONE) NONE (note_word N (schema_note S b) k)

-- "a string schema with case-detection"
unfoldable pub detects_case : List ℕ → List ℕ → ℕ → Bool
detects_case N S w = both (eqb (schema_kind S w) 3) (eqb (note_field N S w 8) 1)

-- what a base offers to the join of names, or to that of additional
unfoldable pub offer_of : List ℕ → List ℕ → Bool → ℕ → ℕ
offer_of N S true b = pick (detects_case N S (property_names S b)) NONE (property_names S b)
offer_of N S false b = additional_properties S b

-- an absent schema is left out
unfoldable pub keep_one : ℕ → List ℕ
keep_one w = pick (eqb w NONE) [] (w ∷ [])

-- "required: joined, repeats kept": the list of one record
unfoldable pub required_of : List ℕ → List ℕ → ℕ → List ℕ
required_of S L b = slice L (required_first S b) (required_count S b)

-- the lists of several records, one after the other
unfoldable pub joined : (ℕ → List ℕ) → List ℕ → List ℕ
joined f [] = []
joined f (b ∷ bs) = f b ++ joined f bs

-- what a base offers, as a list
unfoldable pub offered_of : List ℕ → List ℕ → Bool → ℕ → List ℕ
offered_of N S names b = keep_one (offer_of N S names b)

abbrev pub no_offers : Offers
no_offers = record { n = 0; last = NONE }

unfoldable pub tally_one : Offers → ℕ → Offers
tally_one t w = pick (eqb w NONE) t (record { n = t.n + 1; last = w })

-- how many are offered, and the last
unfoldable pub tally : (ℕ → ℕ) → Offers → List ℕ → Offers
tally f t [] = t
tally f t (b ∷ bs) = tally f (tally_one t (f b)) bs

-- "none, the one, or a new .. of all, the derived one last": the links of such a join, where n are offered
unfoldable pub join_words : ℕ → List ℕ → ℕ → List ℕ
join_words n offered own = pick (ltb n 2) [] (offered ++ keep_one own)

-- "closed: any"
unfoldable pub closed_of : List ℕ → Bool → List ℕ → Bool
closed_of S own [] = own
closed_of S own (b ∷ bs) = let rest = closed_of S own bs in either (eqb (object_closed S b) 1) rest

-- properties, or pattern properties: of the bases bs, then of the derived record s, as links. S and bound are the words used when the
-- bases are compiled, S₀ and own those used at entry
unfoldable pub pair_words : (ℕ → ℕ → Bool) → List ℕ → List ℕ → ℕ → ℕ → List ℕ → List ℕ → ℕ → ℕ → List ℕ
pair_words same S S₀ bound own L bs k s =
    flat_pairs (put_all same (merge_all same (record_pairs S (take bound L) k) [] bs) (record_pairs S₀ (take own L) k s))

-- required: of the bases, then of the derived record
unfoldable pub required_words : List ℕ → List ℕ → ℕ → ℕ → List ℕ → List ℕ → ℕ → List ℕ
required_words S S₀ bound own L bs s = joined (required_of S (take bound L)) bs ++ required_of S₀ (take own L) s

-- the same from lists already found: `list b` is the list of a base b, `own s` that of the derived record
abbrev pub pairs_joined : (ℕ → ℕ → Bool) → (ℕ → List (Pair ℕ)) → (ℕ → List (Pair ℕ)) → List ℕ → ℕ → List ℕ
pairs_joined same list own bs s = flat_pairs (put_all same (merge_all same list [] bs) (own s))

abbrev pub required_joined : (ℕ → List ℕ) → (ℕ → List ℕ) → List ℕ → ℕ → List ℕ
required_joined list own bs s = joined list bs ++ own s

-- what merging reads lies below what it writes
pub record Below (bound own at : ℕ) : Type 0 where
  pub bases : bound ≤ at
  pub derived : own ≤ at

-- the words new stand at the front of what is lent; or it is too short for them
pub record Filled (R R' new : List ℕ) (r : Option ℕ) : Type 0 where
  pub count : (n : ℕ) → r ≡ Some n → length new ≡ n
  pub fits : (n : ℕ) → r ≡ Some n → n ≤ length R
  pub front : (n : ℕ) → r ≡ Some n → take n R' ≡ new
  pub full : r ≡ None → length R < length new
  pub long : length R' ≡ length R

-- the same where `at` links stand before it: the words stand within the limit of the links; or they would pass the limit, or it is too short
pub record FilledWithin (at : ℕ) (R R' new : List ℕ) (r : Option ℕ) : Type 0 where
  pub count : (n : ℕ) → r ≡ Some n → length new ≡ n
  pub fits : (n : ℕ) → r ≡ Some n → n ≤ length R
  pub limit : (n : ℕ) → r ≡ Some n → at + n ≤ most_links
  pub front : (n : ℕ) → r ≡ Some n → take n R' ≡ new
  pub full : r ≡ None → at + length new ≤ most_links → length R < length new
  pub long : length R' ≡ length R

-- the words new stand in the links after `at`, where there is room; earlier words as they were
pub record Laid (L L' : List ℕ) (at : ℕ) (new : List ℕ) (r : Option ℕ) : Type 0 where
  pub fits : (n : ℕ) → r ≡ Some n → room most_links (length L) at (length new) ≡ true
  pub count : (n : ℕ) → r ≡ Some n → length new ≡ n
  pub grown : (n : ℕ) → r ≡ Some n → take (at + n) L' ≡ take at L ++ new
  pub full : r ≡ None → room most_links (length L) at (length new) ≡ false
  pub kept : take at L' ≡ take at L
  pub long : length L' ≡ length L

-- how many words the lists take
abbrev pub total : Option Lists → Option ℕ
total None = None
total (Some x) = Some (x.properties + x.patterns + x.required + x.additional + x.names)

-- each list takes as many words as are counted
pub record Counted (p q r a n : List ℕ) (x : Option Lists) : Type 0 where
  pub properties : (y : Lists) → x ≡ Some y → length p ≡ y.properties
  pub patterns : (y : Lists) → x ≡ Some y → length q ≡ y.patterns
  pub required : (y : Lists) → x ≡ Some y → length r ≡ y.required
  pub additional : (y : Lists) → x ≡ Some y → length a ≡ y.additional
  pub names : (y : Lists) → x ≡ Some y → length n ≡ y.names

-- the lists of a merged object, one after the other, at the front of what is lent
pub record Listed (R R' : List ℕ) (p q r a n : List ℕ) (x : Option Lists) : Type 0 where
  pub filled : Filled R R' ((((p ++ q) ++ r) ++ a) ++ n) (total x)
  pub counted : Counted p q r a n x

-- the same where `at` links stand before it
pub record ListedWithin (at : ℕ) (R R' : List ℕ) (p q r a n : List ℕ) (x : Option Lists) : Type 0 where
  pub filled : FilledWithin at R R' ((((p ++ q) ++ r) ++ a) ++ n) (total x)
  pub counted : Counted p q r a n x

-- the same in the links
pub record Linked (L L' : List ℕ) (at : ℕ) (p q r a n : List ℕ) (x : Option Lists) : Type 0 where
  pub laid : Laid L L' at ((((p ++ q) ++ r) ++ a) ++ n) (total x)
  pub counted : Counted p q r a n x
