-- Where a schema leads: a record that is its own answer, a refusal, or a record that compiling builds anew.
use Rattle.std.specs.Prelude.{ℕ, zero, suc, ◌+◌, Bool, true, false, List, [], ◌∷◌, get_or, leb, take, ◌*◌, Result, Ok, Err}
use Rattle.text.specs.Choice.{pick}
use Rattle.layout.specs.Layout.{schema_word, schema_words}
use Rattle.error.specs.declared.Failure.{Failure}
use Rattle.error.specs.declared.Failure.TheVariants.{WrongNumber, TooDeep, UnknownReference}
use Rattle.derive.specs.declared.Origin.{Origin}
use Rattle.lookup.specs.Lookup.{resolve_of}
use Rattle.compilation.specs.State.{Source}
use Rattle.compilation.specs.Table.{is_built, is_eager, on_found}
use Rattle.put.specs.declared.Lead.{Lead}
use Rattle.put.specs.declared.Lead.TheVariants.{Leaf, Node}

-- with k levels left; Node t j: the record t, j levels left below it
unfoldable pub chase_in : List ℕ → List ℕ → List ℕ → List ℕ → ℕ → ℕ → ℕ → Result Lead Failure
chase_in P T R S us zero s = Err TooDeep
chase_in P T R S us (suc k) s =
    let further : ℕ → Result Lead Failure = λ t. chase_in P T R S us k t in
    pick (leb us s) (Err WrongNumber)
    (pick (is_eager S s) (on_found (resolve_of P T R (schema_word S s 2)) further (Err UnknownReference))
    (pick (is_built (schema_word S s 0)) (Ok (Node s k)) (Ok (Leaf s))))

unfoldable pub chase_at : Source → ℕ → ℕ → Result Lead Failure
chase_at C k s = chase_in C.pool C.texts C.registry C.schemas C.count k s

-- the same of what the code has in hand
abbrev pub lead_in : Origin → List ℕ → ℕ → ℕ → Result Lead Failure
lead_in o S k s = chase_in o.texts.pool.now o.texts.records.now o.registry.now (take (o.base.schemas * schema_words) S) o.base.schemas k s

abbrev pub is_fresh : Result Lead Failure → Bool
is_fresh (Ok (Leaf n)) = false
is_fresh (Ok (Node t j)) = true
is_fresh (Err failure) = true

-- the number of a child: itself where it is a leaf, else what stands on the stack
unfoldable pub num : Result Lead Failure → ℕ → ℕ
num (Ok (Leaf n)) x = n
num (Ok (Node t j)) x = x
num (Err failure) x = x

unfoldable pub next : Bool → ℕ → ℕ
next true p = p + 1
next false p = p

-- the numbers of children, with those that are no leaves read off the stack X from p on
unfoldable pub weave_at : (ℕ → Result Lead Failure) → List ℕ → List ℕ → ℕ → List ℕ
weave_at f [] X p = []
weave_at f (s ∷ ss) X p = num (f s) (get_or X p 0) ∷ weave_at f ss X (next (is_fresh (f s)) p)

-- the stack's top after that
unfoldable pub top_at : (ℕ → Result Lead Failure) → List ℕ → ℕ → ℕ
top_at f [] p = p
top_at f (s ∷ ss) p = top_at f ss (next (is_fresh (f s)) p)

-- n pairs of an object's list from `at` on, as links: each key as it stands, each value's number as above
unfoldable pub entry_words : (ℕ → Result Lead Failure) → List ℕ → ℕ → ℕ → List ℕ → ℕ → List ℕ
entry_words f L at zero X p = []
entry_words f L at (suc n) X p =
    get_or L at 0 ∷ num (f (get_or L (at + 1) 0)) (get_or X p 0) ∷ entry_words f L (at + 2) n X (next (is_fresh (f (get_or L (at + 1) 0))) p)
