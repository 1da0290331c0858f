use Rattle.json_equality.proofs.Shapes as shapes
use Rattle.json_equality.proofs.shape.shape_of.Goals as goal

pub returns-in-1 : goal.returns-in-1
returns-in-1 c = shapes.is_boolean_shape _ _ _ c.node_kind.ensures c.in-1.is c.node_a-a.ensures

pub returns-in-2 : goal.returns-in-2
returns-in-2 c = shapes.is_integer_shape _ _ _ c.node_kind.ensures c.in-2.is c.node_a-a.ensures c.number.ensures

pub returns-in-3 : goal.returns-in-3
returns-in-3 c = shapes.is_real_shape _ _ _ c.node_kind.ensures c.in-3.is c.node_b.ensures c.parsed_shape.ensures

pub returns-in-4 : goal.returns-in-4
returns-in-4 c = shapes.is_text_shape _ _ _ c.node_kind.ensures c.in-4.is c.node_a-a.ensures

pub returns-in-5 : goal.returns-in-5
returns-in-5 c = shapes.is_array_shape _ _ _ c.node_kind.ensures c.in-5.is

pub returns-in-6 : goal.returns-in-6
returns-in-6 c = shapes.is_object_shape _ _ _ c.node_kind.ensures c.in-6.is

pub returns-in_default : goal.returns-in_default
returns-in_default c = shapes.is_null_shape _ _ _ c.node_kind.ensures c.in_default.in_default-own.rest.0.0.0.0.0.1 c.in_default.in_default-own.rest.0.0.0.0.1 c.in_default.in_default-own.rest.0.0.0.1 c.in_default.in_default-own.rest.0.0.1 c.in_default.in_default-own.rest.0.1 c.in_default.in_default-own.rest.1
