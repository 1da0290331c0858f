use Rattle.json_equality.proofs.Shapes as shapes
use Rattle.json_equality.proofs.shape.equal_leaf.Goals as goal

pub returns-in-Null : goal.returns-in-Null
returns-in-Null c = shapes.leaf_null _ _ _ _ c.in-Null.is c.is_null.ensures

pub returns-in-Boolean : goal.returns-in-Boolean
returns-in-Boolean c = shapes.leaf_boolean _ _ _ _ c.in-Boolean.is c.is_boolean.ensures

pub returns-in-Numeric : goal.returns-in-Numeric
returns-in-Numeric c = shapes.leaf_number _ _ _ _ c.in-Numeric.is c.is_number.ensures

pub returns-in-Text : goal.returns-in-Text
returns-in-Text c = shapes.leaf_text _ _ _ _ c.in-Text.is c.is_text.ensures

pub returns-in-Array : goal.returns-in-Array
returns-in-Array c = shapes.leaf_array _ _ _ _ c.in-Array.is

pub returns-in-Object : goal.returns-in-Object
returns-in-Object c = shapes.leaf_object _ _ _ _ c.in-Object.is
