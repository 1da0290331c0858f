-- Document 01, "Tables", schemas: one record of table 4, decoded. `A` is what stands for a child: a record number in a table, a tree in
-- a tree. Assumes nothing.
use Rattle.std.specs.Prelude.{ℕ, Bool, List}
use Rattle.std.proofs.Math.Option.{Option}

-- a note, word for word
pub record Note : Type 0 where
  pub id : ℕ
  pub description : ℕ
  pub documentation : ℕ
  pub message : ℕ
  pub hidden : ℕ
  pub completions : ℕ
  pub more : ℕ
  pub tags : ℕ
  pub detection : ℕ

-- a property, or a pattern property
pub record Pair (A : Type 0) : Type 0 where
  pub key : ℕ
  pub value : A

-- kinds 0 to 6 name no schema: their kind, and their words after the note; an enum's are its listed nodes
pub record Own : Type 0 where
  pub kind : ℕ
  pub note : Option Note
  pub words : List ℕ

-- names: absent, a string schema with case-detection, or others, joined by anyOf once merged
pub data Names (A : Type 0) : Type 0 where
  nameless : Names A
  detects : A → Names A
  named : List A → Names A

-- 10 object. Additional is a list: in a table the one schema, in a tree its opened parts. Bases are read apart
pub record Object (A : Type 0) : Type 0 where
  pub note : Option Note
  pub props : List (Pair A)
  pub patterns : List (Pair A)
  pub additional : Option (List A)
  pub required : List ℕ
  pub least : ℕ
  pub most : ℕ
  pub closed : Bool
  pub names : Names A
  pub naming : ℕ

pub data Shape (A : Type 0) : Type 0 where
  plain : Own → Shape A
  any_of : Option Note → List A → Shape A
  all_of : Option Note → List A → Shape A
  array : Own → Option A → Shape A
  object : Object A → Shape A
  ref : Option Note → ℕ → Bool → Shape A
