-- Document 01, demand 3: "In a list of bases, any run of one or more neighbours may be replaced by one empty object that names the run as
-- its bases." First for one object whose list it is, then for schemas that hold such objects anywhere. Assumes nothing.
use Rattle.std.specs.Prelude.{ℕ, ◌<◌, ◌≡◌, Bool, List, [], ◌∷◌, ◌++◌}
use Rattle.std.proofs.Math.Option.{Option, some, none}
use Rattle.layout.specs.Layout.{schema_count}
use Rattle.schema.specs.Shape.{Note, Pair, Own, Names, nameless, detects, named, Object, plain, any_of, all_of, array, object, ref}
use Rattle.schema.specs.Look.{Words, look, bases}
use Rattle.merge.specs.Merge.{empty}

-- d and d' are one object but for their bases: where those of d have a run, d' has the empty object e, whose bases are the run
pub record Grouped (t : Words) (d d' e : ℕ) : Type 0 where
  pub own : Object ℕ
  pub before : List ℕ
  pub run : List ℕ
  pub after : List ℕ
  pub flat : look t d ≡ object own
  pub flat_bases : bases t d ≡ some (before ++ (run ++ after))
  pub nested : look t d' ≡ object own
  pub nested_bases : bases t d' ≡ some (before ++ (e ∷ after))
  pub wrapper : look t e ≡ object empty
  pub wrapper_bases : bases t e ≡ some run

-- ---- anywhere: Q says which record of the one table stands for which of the other
-- lists, options, pairs and names of related children, in order
pub data Each {S U : Type 0} (Q : S → U → Type 0) : List S → List U → Type 0 where
  stop : Each Q [] []
  also : {s : S} {u : U} {ss : List S} {us : List U} → Q s u → Each Q ss us → Each Q (s ∷ ss) (u ∷ us)

pub data Maybe {S U : Type 0} (Q : S → U → Type 0) : Option S → Option U → Type 0 where
  neither : Maybe Q none none
  both : {s : S} {u : U} → Q s u → Maybe Q (some s) (some u)

pub data Pairs {S U : Type 0} (Q : S → U → Type 0) : List (Pair S) → List (Pair U) → Type 0 where
  end_pairs : Pairs Q [] []
  pair : {s : Pair S} {u : Pair U} {ss : List (Pair S)} {us : List (Pair U)} → s.key ≡ u.key → Q s.value u.value → Pairs Q ss us → Pairs Q (s ∷ ss) (u ∷ us)

pub data Parts {S U : Type 0} (Q : S → U → Type 0) : Option (List S) → Option (List U) → Type 0 where
  no_parts : Parts Q none none
  parts : {xs : List S} {ys : List U} → Each Q xs ys → Parts Q (some xs) (some ys)

pub data Namings {S U : Type 0} (Q : S → U → Type 0) : Names S → Names U → Type 0 where
  no_names : Namings Q nameless nameless
  detected : {x : S} {y : U} → Q x y → Namings Q (detects x) (detects y)
  namings : {xs : List S} {ys : List U} → Each Q xs ys → Namings Q (named xs) (named ys)

-- objects with the same words and related children
pub record Kin {S U : Type 0} (Q : S → U → Type 0) (o : Object S) (p : Object U) : Type 0 where
  pub note : o.note ≡ p.note
  pub props : Pairs Q o.props p.props
  pub patterns : Pairs Q o.patterns p.patterns
  pub additional : Parts Q o.additional p.additional
  pub required : o.required ≡ p.required
  pub least : o.least ≡ p.least
  pub most : o.most ≡ p.most
  pub closed : o.closed ≡ p.closed
  pub names : Namings Q o.names p.names
  pub naming : o.naming ≡ p.naming

module _ (T T' : Words) (Q : ℕ → ℕ → Type 0) where
  -- a list of bases, and one where empty objects stand for runs of it: several runs, and runs within runs
  pub data Runs : List ℕ → List ℕ → Type 0 where
    done : Runs [] []
    base : {b b' : ℕ} {bs bs' : List ℕ} → Q b b' → Runs bs bs' → Runs (b ∷ bs) (b' ∷ bs')
    run : {e : ℕ} {some-run inner bs bs' : List ℕ} → look T' e ≡ object empty → bases T' e ≡ some inner → Runs some-run inner → Runs bs bs' → Runs (some-run ++ bs) (e ∷ bs')

  pub data BasesKin : Option (List ℕ) → Option (List ℕ) → Type 0 where
    no_base : BasesKin none none
    runs : {bs bs' : List ℕ} → Runs bs bs' → BasesKin (some bs) (some bs')

  -- the record s of T and the record s' of T' are the same but for runs in lists of bases, here or in a child
  pub data Related (s s' : ℕ) : Type 0 where
    plains : (w : Own) → look T s ≡ plain w → look T' s' ≡ plain w → Related s s'
    anys : (note : Option Note) (xs ys : List ℕ) → look T s ≡ any_of note xs → look T' s' ≡ any_of note ys → Each Q xs ys → Related s s'
    alls : (note : Option Note) (xs ys : List ℕ) → look T s ≡ all_of note xs → look T' s' ≡ all_of note ys → Each Q xs ys → Related s s'
    arrays : (w : Own) (x y : Option ℕ) → look T s ≡ array w x → look T' s' ≡ array w y → Maybe Q x y → Related s s'
    objects : (o p : Object ℕ) → look T s ≡ object o → look T' s' ≡ object p → Kin Q o p → BasesKin (bases T s) (bases T' s') → Related s s'
    refs : (note : Option Note) (t : ℕ) (b : Bool) → look T s ≡ ref note t b → look T' s' ≡ ref note t b → Related s s'

  -- ... for every pair of records that Q relates, and for what the registries name
  pub record Regrouped (find find' : ℕ → Option ℕ) : Type 0 where
    pub within : (s s' : ℕ) → Q s s' → s < schema_count T.schemas
    pub within' : (s s' : ℕ) → Q s s' → s' < schema_count T'.schemas
    pub related : (s s' : ℕ) → Q s s' → Related s s'
    pub found : (t : ℕ) → Maybe Q (find t) (find' t)
