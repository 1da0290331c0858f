-- Merging: what an object gets from its bases, over what stands for a child.
use Rattle.std.specs.Prelude.{ℕ, Bool, false, ◌||◌, List, [], ◌∷◌, ◌++◌, eqb}
use Rattle.std.proofs.Math.Option.{Option, some, none}
use Rattle.schema.specs.Shape.{Note, Pair, Names, nameless, detects, named, Object}
use Rattle.text.specs.Choice.{pick}
use Rattle.layout.specs.Layout.{NONE}

-- "later present over earlier"
unfoldable pub later : ℕ → ℕ → ℕ
later x y = pick (eqb y NONE) x y

-- "case-detection goes with tags"
unfoldable pub with_tags : ℕ → ℕ → ℕ → ℕ
with_tags x tags y = pick (eqb tags NONE) x y

-- a note without its id: what merging keeps
pub record Kept : Type 0 where
  pub description : ℕ
  pub documentation : ℕ
  pub message : ℕ
  pub hidden : ℕ
  pub completions : ℕ
  pub more : ℕ
  pub tags : ℕ
  pub detection : ℕ

abbrev pub nothing : Kept
nothing = record { description = NONE; documentation = NONE; message = NONE; hidden = NONE; completions = NONE; more = NONE; tags = NONE; detection = 0 }

abbrev pub kept : Option Note → Kept
kept none = nothing
kept (some x) = record { description = x.description; documentation = x.documentation; message = x.message; hidden = x.hidden; completions = x.completions; more = x.more; tags = x.tags; detection = x.detection }

abbrev pub over : Kept → Kept → Kept
over x y = record {
  description = later x.description y.description;
  documentation = later x.documentation y.documentation;
  message = later x.message y.message;
  hidden = later x.hidden y.hidden;
  completions = later x.completions y.completions;
  more = later x.more y.more;
  tags = later x.tags y.tags;
  detection = with_tags x.detection y.tags y.detection;
}

abbrev pub description_of : Option Note → ℕ
description_of none = NONE
description_of (some x) = x.description

-- "of the derived note only a present description"
abbrev pub note_of : Kept → Option Note → Note
note_of x d = record { id = NONE; description = later x.description (description_of d); documentation = x.documentation; message = x.message; hidden = x.hidden; completions = x.completions; more = x.more; tags = x.tags; detection = x.detection }

-- "a later pair replaces the whole pair in place, new ones at the end"
unfoldable pub put : {A : Type 0} → (ℕ → ℕ → Bool) → Pair A → List (Pair A) → List (Pair A)
put eq p [] = p ∷ []
put eq p (q ∷ qs) = let rest = put eq p qs in pick (eq q.key p.key) (p ∷ qs) (q ∷ rest)

unfoldable pub put_all : {A : Type 0} → (ℕ → ℕ → Bool) → List (Pair A) → List (Pair A) → List (Pair A)
put_all eq l [] = l
put_all eq l (p ∷ ps) = put_all eq (put eq p l) ps

infixl 60 ◌⊕◌
-- none, the one, or all of them: opened, a join is the parts of all
abbrev pub ◌⊕◌ : {A : Type 0} → Option (List A) → Option (List A) → Option (List A)
◌⊕◌ x none = x
◌⊕◌ none (some ys) = some ys
◌⊕◌ (some xs) (some ys) = some (xs ++ ys)

-- "a string schema with case-detection left out"
abbrev pub counting : {A : Type 0} → Names A → Option (List A)
counting nameless = none
counting (detects x) = none
counting (named xs) = some xs

abbrev pub naming : {A : Type 0} → Option (List A) → Names A
naming none = nameless
naming (some xs) = named xs

-- what bases give together
pub record Gathered (A : Type 0) : Type 0 where
  pub note : Kept
  pub props : List (Pair A)
  pub patterns : List (Pair A)
  pub additional : Option (List A)
  pub required : List ℕ
  pub closed : Bool
  pub names : Option (List A)

abbrev pub start : {A : Type 0} → Gathered A
start = record { note = nothing; props = []; patterns = []; additional = none; required = []; closed = false; names = none }

abbrev pub add : {A : Type 0} → (ℕ → ℕ → Bool) → Gathered A → Object A → Gathered A
add eq g o = record {
  note = over g.note (kept o.note);
  props = put_all eq g.props o.props;
  patterns = put_all eq g.patterns o.patterns;
  additional = g.additional ⊕ o.additional;
  required = g.required ++ o.required;
  closed = g.closed || o.closed;
  names = g.names ⊕ counting o.names;
}

unfoldable pub gather : {A : Type 0} → (ℕ → ℕ → Bool) → Gathered A → List (Object A) → Gathered A
gather eq g [] = g
gather eq g (o ∷ os) = gather eq (add eq g o) os

abbrev pub derive : {A : Type 0} → (ℕ → ℕ → Bool) → Gathered A → Object A → Object A
derive eq g d = record {
  note = some (note_of g.note d.note);
  props = put_all eq g.props d.props;
  patterns = put_all eq g.patterns d.patterns;
  additional = g.additional ⊕ d.additional;
  required = g.required ++ d.required;
  least = d.least;
  most = d.most;
  closed = g.closed || d.closed;
  names = naming g.names;
  naming = d.naming;
}

abbrev pub merge : {A : Type 0} → (ℕ → ℕ → Bool) → List (Object A) → Object A → Object A
merge eq bases d = derive eq (gather eq start bases) d

-- "Empty object: note and options absent, lists empty, not closed"
abbrev pub empty : {A : Type 0} → Object A
empty = record { note = none; props = []; patterns = []; additional = none; required = []; least = NONE; most = NONE; closed = false; names = nameless; naming = NONE }
