-- The statement for the public calls applied to two schemas of one small table, the flat object and the grouped one: it is not empty.
-- Assumes nothing.
use Prim.Native.Nat.{ℕ, ◌<◌}
use mathlib.Core.Path.{◌≡◌, refl, sym, subst}
use mathlib.Core.List.{◌++◌}
use native.Mathlib.Omega.{arith}
use lib.ListN.{replicate}
use Rattle.error.specs.declared.Mode.TheVariants.{Source}
use Rattle.error.specs.declared.Used.{Used}
use Rattle.layout.specs.Layout.{Tables, node_count}
use Rattle.schema.specs.Look.{words_of}
use Rattle.compilation.specs.Entry.{used_tables, compile_of}
use Rattle.grouping.specs.Regrouped.{Grouped}
use Rattle.grouping.specs.Demand.{SameCall}
use Rattle.grouping.proofs.Example.{T, grouped}
use Rattle.keeping.specs.Left.{Compiles, left_by, validate_with}
use Rattle.laws.proofs.Grouping.{bases_may_be_grouped_calls}

-- the example's tables, lent with room for four notes, sixteen schemas and 64 links more
unfoldable pub lent : Tables
lent =
    record {
      pool = T.pool;
      texts = T.texts;
      nodes = T.nodes;
      notes = replicate 36 0;
      schemas = T.schemas ++ replicate 256 0;
      registry = T.registry;
      patterns = T.patterns;
      links = T.links ++ replicate 64 0;
      numbers = T.numbers;
    }

abbrev pub used : Used
used = record { notes = 0; schemas = 11; links = 11 }

used_are : used_tables lent used ≡ T
unfolding lent Rattle.grouping.proofs.Example.T Rattle.grouping.proofs.Example.plainly Rattle.grouping.proofs.Example.string Rattle.grouping.proofs.Example.thing Rattle.grouping.proofs.Example.eager_ref Rattle.grouping.proofs.Example.list_of_it Rattle.compilation.specs.Entry.used_tables
used_are = refl

flat_compiles : Compiles lent used 7
unfolding lent Rattle.grouping.proofs.Example.T Rattle.grouping.proofs.Example.plainly Rattle.grouping.proofs.Example.string Rattle.grouping.proofs.Example.thing Rattle.grouping.proofs.Example.eager_ref Rattle.grouping.proofs.Example.list_of_it Rattle.text.specs.Text.text_count Rattle.text.specs.Text.text_word Rattle.text.specs.Text.text_start Rattle.text.specs.Text.text_length Rattle.text.specs.Text.fits_in Rattle.text.specs.Text.part_of Rattle.text.specs.Text.text_fits Rattle.text.specs.Text.text_of Rattle.text.specs.Text.same_bytes Rattle.text.specs.Text.same_text Rattle.text.specs.Text.padded Rattle.text.specs.Utf8.lead_of Rattle.text.specs.Utf8.step_of Rattle.text.specs.Utf8.utf8_of Rattle.text.specs.Utf8.point_of Rattle.text.specs.Utf8.code_points_of Rattle.layout.specs.Layout.node_count Rattle.layout.specs.Layout.note_count Rattle.layout.specs.Layout.schema_count Rattle.layout.specs.Layout.entry_count Rattle.layout.specs.Layout.pattern_count Rattle.layout.specs.Layout.node_word Rattle.layout.specs.Layout.note_word Rattle.layout.specs.Layout.schema_word Rattle.layout.specs.Layout.registry_word Rattle.layout.specs.Layout.pattern_word Rattle.layout.specs.Layout.pair_key Rattle.layout.specs.Layout.pair_value Rattle.layout.specs.Walk.every Rattle.layout.specs.Walk.first Rattle.lists.specs.Lists.optional_below Rattle.lists.specs.Lists.link_below Rattle.lists.specs.Lists.list_below Rattle.lists.specs.Lists.pair_ok Rattle.lists.specs.Lists.keys_differ Rattle.lists.specs.Lists.key_is_new Rattle.lists.specs.Lists.keys_distinct Rattle.lists.specs.Lists.pairs_below Rattle.lists.specs.Lists.pairs_ok Rattle.records.specs.Records.counts_in Rattle.records.specs.Records.text_ok Rattle.records.specs.Records.plain_node_ok Rattle.records.specs.Records.boolean_node_ok Rattle.records.specs.Records.place_node_ok Rattle.records.specs.Records.real_node_ok Rattle.records.specs.Records.list_node_ok Rattle.records.specs.Records.node_rule Rattle.records.specs.Records.node_ok Rattle.records.specs.Records.note_ok Rattle.records.specs.Records.entry_ok Rattle.records.specs.Records.pattern_ok Rattle.rules.specs.Schemas.unused_at Rattle.rules.specs.Schemas.unused_from Rattle.rules.specs.Schemas.schema_note_ok Rattle.rules.specs.Schemas.true_ok Rattle.rules.specs.Schemas.number_ok Rattle.rules.specs.Schemas.string_ok Rattle.rules.specs.Schemas.list_ok Rattle.rules.specs.Schemas.array_ok Rattle.rules.specs.Schemas.bases_ok Rattle.rules.specs.Schemas.object_pairs_ok Rattle.rules.specs.Schemas.object_words_ok Rattle.rules.specs.Schemas.object_ok Rattle.rules.specs.Schemas.ref_ok Rattle.rules.specs.Schemas.schema_rule Rattle.rules.specs.Schemas.schema_ok Rattle.tables.specs.Check.whole_size Rattle.tables.specs.Check.used_size Rattle.tables.specs.Check.size_or Rattle.tables.specs.Check.texts_size Rattle.tables.specs.Check.sizes_fault Rattle.tables.specs.Check.record_count Rattle.tables.specs.Check.record_ok Rattle.tables.specs.Check.first_bad Rattle.tables.specs.Check.records_from Rattle.tables.specs.Check.records_fault Rattle.tables.specs.Check.lent_fault Rattle.tables.specs.Check.tables_fault Rattle.lookup.specs.Find.last_below Rattle.lookup.specs.Find.first_from Rattle.lookup.specs.Lookup.key_is Rattle.lookup.specs.Lookup.entry_key Rattle.lookup.specs.Lookup.entry_value Rattle.lookup.specs.Lookup.item_node Rattle.lookup.specs.Lookup.entry_has_key Rattle.lookup.specs.Lookup.last_entry Rattle.lookup.specs.Lookup.pair_has_key Rattle.lookup.specs.Lookup.property_of Rattle.lookup.specs.Lookup.entry_is_named Rattle.lookup.specs.Lookup.resolve_of Rattle.lookup.specs.Lookup.find_in Rattle.lookup.specs.Lookup.answers_pattern Rattle.lookup.specs.Lookup.answer_of_pattern Rattle.schema.specs.Look.slice Rattle.schema.specs.Look.pairs_from Rattle.schema.specs.Look.own_words Rattle.schema.specs.Look.note_at Rattle.schema.specs.Look.own_of Rattle.schema.specs.Look.array_of Rattle.schema.specs.Look.object_of Rattle.schema.specs.Look.raw Rattle.schema.specs.Look.bases Rattle.schema.specs.Look.detecting Rattle.schema.specs.Look.sort_names Rattle.schema.specs.Look.sort_shape Rattle.schema.specs.Look.look Rattle.merge.specs.Merge.later Rattle.merge.specs.Merge.with_tags Rattle.merge.specs.Merge.put Rattle.merge.specs.Merge.put_all Rattle.merge.specs.Merge.gather Rattle.merge.specs.Pairs.pairs_at Rattle.merge.specs.Pairs.flat_pairs Rattle.merge.specs.Pairs.merge_all Rattle.merge.specs.Pairs.span Rattle.compilation.specs.Compile.objects_of Rattle.compilation.specs.Compile.looks Rattle.compilation.specs.Compile.add_note Rattle.compilation.specs.Compile.add_row Rattle.compilation.specs.Compile.add_links Rattle.compilation.specs.Compile.add_list Rattle.compilation.specs.Compile.add_array Rattle.compilation.specs.Compile.add_object Rattle.compilation.specs.Compile.add_merged Rattle.compilation.specs.Compile.each Rattle.compilation.specs.Compile.each_pair Rattle.compilation.specs.Compile.optionally Rattle.compilation.specs.Compile.compile_shape Rattle.compilation.specs.Compile.compile_at Rattle.compilation.specs.Entry.used_tables Rattle.compilation.specs.Entry.used_fault Rattle.compilation.specs.Entry.room_of Rattle.compilation.specs.Entry.compiled_of Rattle.compilation.specs.Entry.compile_of Rattle.judge.specs.Judge.length_in Rattle.judge.specs.Judge.is_short Rattle.judge.specs.Judge.is_long Rattle.judge.specs.Judge.count_verdict Rattle.judge.specs.Judge.real_at Rattle.judge.specs.Judge.bounds_of Rattle.judge.specs.Judge.answer_wrong Rattle.judge.specs.Judge.mismatch Rattle.judge.specs.Judge.boolean_verdict Rattle.judge.specs.Judge.null_verdict Rattle.judge.specs.Judge.value_verdict Rattle.judge.specs.Judge.number_verdict Rattle.judge.specs.Judge.pattern_verdict Rattle.judge.specs.Judge.string_verdict Rattle.judge.specs.Judge.is_listed Rattle.judge.specs.Judge.any_repeated Rattle.judge.specs.Judge.enum_verdict Rattle.judge.specs.Judge.items_of Rattle.judge.specs.Judge.unique_verdict Rattle.judge.specs.Judge.array_verdict Rattle.judge.specs.Judge.has_earlier Rattle.judge.specs.Judge.is_duplicate Rattle.judge.specs.Judge.keys_verdict Rattle.judge.specs.Judge.object_verdict Rattle.judge.specs.Judge.has_key Rattle.judge.specs.Judge.missing Rattle.judge.specs.Judge.required_verdict Rattle.judge.specs.Judge.size_verdict Rattle.judge.specs.Judge.before_entries Rattle.judge.specs.Judge.judge_of Rattle.validator.specs.Validate.visit_of Rattle.validator.specs.Validate.validate_of Rattle.validator.specs.Visit.find_pair Rattle.validator.specs.Visit.all_over Rattle.validator.specs.Visit.any_over Rattle.validator.specs.Visit.items_over Rattle.validator.specs.Visit.required_over Rattle.validator.specs.Visit.entries_over Rattle.validator.specs.Visit.object_at Rattle.validator.specs.Visit.array_at Rattle.validator.specs.Visit.visit_body Rattle.validator.specs.Visit.visit_at Rattle.validator.specs.Nodes.entry_of Rattle.validator.specs.Nodes.entries_from Rattle.error.specs.Answers.answer_of Rattle.error.specs.Answers.refusal_of Rattle.error.specs.Answers.with_used Rattle.error.specs.Paths.path_words Rattle.error.specs.Paths.instance_buffer Rattle.error.specs.Paths.schema_buffer Rattle.error.specs.Paths.read_path Rattle.keeping.specs.Left.left_by Rattle.merge.specs.Pairs.record_pairs
flat_compiles = refl

grouped-compiles : Compiles lent used 8
unfolding lent Rattle.grouping.proofs.Example.T Rattle.grouping.proofs.Example.plainly Rattle.grouping.proofs.Example.string Rattle.grouping.proofs.Example.thing Rattle.grouping.proofs.Example.eager_ref Rattle.grouping.proofs.Example.list_of_it Rattle.text.specs.Text.text_count Rattle.text.specs.Text.text_word Rattle.text.specs.Text.text_start Rattle.text.specs.Text.text_length Rattle.text.specs.Text.fits_in Rattle.text.specs.Text.part_of Rattle.text.specs.Text.text_fits Rattle.text.specs.Text.text_of Rattle.text.specs.Text.same_bytes Rattle.text.specs.Text.same_text Rattle.text.specs.Text.padded Rattle.text.specs.Utf8.lead_of Rattle.text.specs.Utf8.step_of Rattle.text.specs.Utf8.utf8_of Rattle.text.specs.Utf8.point_of Rattle.text.specs.Utf8.code_points_of Rattle.layout.specs.Layout.node_count Rattle.layout.specs.Layout.note_count Rattle.layout.specs.Layout.schema_count Rattle.layout.specs.Layout.entry_count Rattle.layout.specs.Layout.pattern_count Rattle.layout.specs.Layout.node_word Rattle.layout.specs.Layout.note_word Rattle.layout.specs.Layout.schema_word Rattle.layout.specs.Layout.registry_word Rattle.layout.specs.Layout.pattern_word Rattle.layout.specs.Layout.pair_key Rattle.layout.specs.Layout.pair_value Rattle.layout.specs.Walk.every Rattle.layout.specs.Walk.first Rattle.lists.specs.Lists.optional_below Rattle.lists.specs.Lists.link_below Rattle.lists.specs.Lists.list_below Rattle.lists.specs.Lists.pair_ok Rattle.lists.specs.Lists.keys_differ Rattle.lists.specs.Lists.key_is_new Rattle.lists.specs.Lists.keys_distinct Rattle.lists.specs.Lists.pairs_below Rattle.lists.specs.Lists.pairs_ok Rattle.records.specs.Records.counts_in Rattle.records.specs.Records.text_ok Rattle.records.specs.Records.plain_node_ok Rattle.records.specs.Records.boolean_node_ok Rattle.records.specs.Records.place_node_ok Rattle.records.specs.Records.real_node_ok Rattle.records.specs.Records.list_node_ok Rattle.records.specs.Records.node_rule Rattle.records.specs.Records.node_ok Rattle.records.specs.Records.note_ok Rattle.records.specs.Records.entry_ok Rattle.records.specs.Records.pattern_ok Rattle.rules.specs.Schemas.unused_at Rattle.rules.specs.Schemas.unused_from Rattle.rules.specs.Schemas.schema_note_ok Rattle.rules.specs.Schemas.true_ok Rattle.rules.specs.Schemas.number_ok Rattle.rules.specs.Schemas.string_ok Rattle.rules.specs.Schemas.list_ok Rattle.rules.specs.Schemas.array_ok Rattle.rules.specs.Schemas.bases_ok Rattle.rules.specs.Schemas.object_pairs_ok Rattle.rules.specs.Schemas.object_words_ok Rattle.rules.specs.Schemas.object_ok Rattle.rules.specs.Schemas.ref_ok Rattle.rules.specs.Schemas.schema_rule Rattle.rules.specs.Schemas.schema_ok Rattle.tables.specs.Check.whole_size Rattle.tables.specs.Check.used_size Rattle.tables.specs.Check.size_or Rattle.tables.specs.Check.texts_size Rattle.tables.specs.Check.sizes_fault Rattle.tables.specs.Check.record_count Rattle.tables.specs.Check.record_ok Rattle.tables.specs.Check.first_bad Rattle.tables.specs.Check.records_from Rattle.tables.specs.Check.records_fault Rattle.tables.specs.Check.lent_fault Rattle.tables.specs.Check.tables_fault Rattle.lookup.specs.Find.last_below Rattle.lookup.specs.Find.first_from Rattle.lookup.specs.Lookup.key_is Rattle.lookup.specs.Lookup.entry_key Rattle.lookup.specs.Lookup.entry_value Rattle.lookup.specs.Lookup.item_node Rattle.lookup.specs.Lookup.entry_has_key Rattle.lookup.specs.Lookup.last_entry Rattle.lookup.specs.Lookup.pair_has_key Rattle.lookup.specs.Lookup.property_of Rattle.lookup.specs.Lookup.entry_is_named Rattle.lookup.specs.Lookup.resolve_of Rattle.lookup.specs.Lookup.find_in Rattle.lookup.specs.Lookup.answers_pattern Rattle.lookup.specs.Lookup.answer_of_pattern Rattle.schema.specs.Look.slice Rattle.schema.specs.Look.pairs_from Rattle.schema.specs.Look.own_words Rattle.schema.specs.Look.note_at Rattle.schema.specs.Look.own_of Rattle.schema.specs.Look.array_of Rattle.schema.specs.Look.object_of Rattle.schema.specs.Look.raw Rattle.schema.specs.Look.bases Rattle.schema.specs.Look.detecting Rattle.schema.specs.Look.sort_names Rattle.schema.specs.Look.sort_shape Rattle.schema.specs.Look.look Rattle.merge.specs.Merge.later Rattle.merge.specs.Merge.with_tags Rattle.merge.specs.Merge.put Rattle.merge.specs.Merge.put_all Rattle.merge.specs.Merge.gather Rattle.merge.specs.Pairs.pairs_at Rattle.merge.specs.Pairs.flat_pairs Rattle.merge.specs.Pairs.merge_all Rattle.merge.specs.Pairs.span Rattle.compilation.specs.Compile.objects_of Rattle.compilation.specs.Compile.looks Rattle.compilation.specs.Compile.add_note Rattle.compilation.specs.Compile.add_row Rattle.compilation.specs.Compile.add_links Rattle.compilation.specs.Compile.add_list Rattle.compilation.specs.Compile.add_array Rattle.compilation.specs.Compile.add_object Rattle.compilation.specs.Compile.add_merged Rattle.compilation.specs.Compile.each Rattle.compilation.specs.Compile.each_pair Rattle.compilation.specs.Compile.optionally Rattle.compilation.specs.Compile.compile_shape Rattle.compilation.specs.Compile.compile_at Rattle.compilation.specs.Entry.used_tables Rattle.compilation.specs.Entry.used_fault Rattle.compilation.specs.Entry.room_of Rattle.compilation.specs.Entry.compiled_of Rattle.compilation.specs.Entry.compile_of Rattle.judge.specs.Judge.length_in Rattle.judge.specs.Judge.is_short Rattle.judge.specs.Judge.is_long Rattle.judge.specs.Judge.count_verdict Rattle.judge.specs.Judge.real_at Rattle.judge.specs.Judge.bounds_of Rattle.judge.specs.Judge.answer_wrong Rattle.judge.specs.Judge.mismatch Rattle.judge.specs.Judge.boolean_verdict Rattle.judge.specs.Judge.null_verdict Rattle.judge.specs.Judge.value_verdict Rattle.judge.specs.Judge.number_verdict Rattle.judge.specs.Judge.pattern_verdict Rattle.judge.specs.Judge.string_verdict Rattle.judge.specs.Judge.is_listed Rattle.judge.specs.Judge.any_repeated Rattle.judge.specs.Judge.enum_verdict Rattle.judge.specs.Judge.items_of Rattle.judge.specs.Judge.unique_verdict Rattle.judge.specs.Judge.array_verdict Rattle.judge.specs.Judge.has_earlier Rattle.judge.specs.Judge.is_duplicate Rattle.judge.specs.Judge.keys_verdict Rattle.judge.specs.Judge.object_verdict Rattle.judge.specs.Judge.has_key Rattle.judge.specs.Judge.missing Rattle.judge.specs.Judge.required_verdict Rattle.judge.specs.Judge.size_verdict Rattle.judge.specs.Judge.before_entries Rattle.judge.specs.Judge.judge_of Rattle.validator.specs.Validate.visit_of Rattle.validator.specs.Validate.validate_of Rattle.validator.specs.Visit.find_pair Rattle.validator.specs.Visit.all_over Rattle.validator.specs.Visit.any_over Rattle.validator.specs.Visit.items_over Rattle.validator.specs.Visit.required_over Rattle.validator.specs.Visit.entries_over Rattle.validator.specs.Visit.object_at Rattle.validator.specs.Visit.array_at Rattle.validator.specs.Visit.visit_body Rattle.validator.specs.Visit.visit_at Rattle.validator.specs.Nodes.entry_of Rattle.validator.specs.Nodes.entries_from Rattle.error.specs.Answers.answer_of Rattle.error.specs.Answers.refusal_of Rattle.error.specs.Answers.with_used Rattle.error.specs.Paths.path_words Rattle.error.specs.Paths.instance_buffer Rattle.error.specs.Paths.schema_buffer Rattle.error.specs.Paths.read_path Rattle.keeping.specs.Left.left_by Rattle.merge.specs.Pairs.record_pairs
grouped-compiles = refl

node_there : 2 < node_count lent.nodes
unfolding lent Rattle.grouping.proofs.Example.T Rattle.grouping.proofs.Example.plainly Rattle.grouping.proofs.Example.string Rattle.grouping.proofs.Example.thing Rattle.grouping.proofs.Example.eager_ref Rattle.grouping.proofs.Example.list_of_it Rattle.layout.specs.Layout.node_count
node_there = omega arith

flat_number : (validate_with lent (compile_of lent used 7) Source 2 128 64).answer.number ≡ 1
unfolding lent Rattle.grouping.proofs.Example.T Rattle.grouping.proofs.Example.plainly Rattle.grouping.proofs.Example.string Rattle.grouping.proofs.Example.thing Rattle.grouping.proofs.Example.eager_ref Rattle.grouping.proofs.Example.list_of_it Rattle.text.specs.Text.text_count Rattle.text.specs.Text.text_word Rattle.text.specs.Text.text_start Rattle.text.specs.Text.text_length Rattle.text.specs.Text.fits_in Rattle.text.specs.Text.part_of Rattle.text.specs.Text.text_fits Rattle.text.specs.Text.text_of Rattle.text.specs.Text.same_bytes Rattle.text.specs.Text.same_text Rattle.text.specs.Text.padded Rattle.text.specs.Utf8.lead_of Rattle.text.specs.Utf8.step_of Rattle.text.specs.Utf8.utf8_of Rattle.text.specs.Utf8.point_of Rattle.text.specs.Utf8.code_points_of Rattle.layout.specs.Layout.node_count Rattle.layout.specs.Layout.note_count Rattle.layout.specs.Layout.schema_count Rattle.layout.specs.Layout.entry_count Rattle.layout.specs.Layout.pattern_count Rattle.layout.specs.Layout.node_word Rattle.layout.specs.Layout.note_word Rattle.layout.specs.Layout.schema_word Rattle.layout.specs.Layout.registry_word Rattle.layout.specs.Layout.pattern_word Rattle.layout.specs.Layout.pair_key Rattle.layout.specs.Layout.pair_value Rattle.layout.specs.Walk.every Rattle.layout.specs.Walk.first Rattle.lists.specs.Lists.optional_below Rattle.lists.specs.Lists.link_below Rattle.lists.specs.Lists.list_below Rattle.lists.specs.Lists.pair_ok Rattle.lists.specs.Lists.keys_differ Rattle.lists.specs.Lists.key_is_new Rattle.lists.specs.Lists.keys_distinct Rattle.lists.specs.Lists.pairs_below Rattle.lists.specs.Lists.pairs_ok Rattle.records.specs.Records.counts_in Rattle.records.specs.Records.text_ok Rattle.records.specs.Records.plain_node_ok Rattle.records.specs.Records.boolean_node_ok Rattle.records.specs.Records.place_node_ok Rattle.records.specs.Records.real_node_ok Rattle.records.specs.Records.list_node_ok Rattle.records.specs.Records.node_rule Rattle.records.specs.Records.node_ok Rattle.records.specs.Records.note_ok Rattle.records.specs.Records.entry_ok Rattle.records.specs.Records.pattern_ok Rattle.rules.specs.Schemas.unused_at Rattle.rules.specs.Schemas.unused_from Rattle.rules.specs.Schemas.schema_note_ok Rattle.rules.specs.Schemas.true_ok Rattle.rules.specs.Schemas.number_ok Rattle.rules.specs.Schemas.string_ok Rattle.rules.specs.Schemas.list_ok Rattle.rules.specs.Schemas.array_ok Rattle.rules.specs.Schemas.bases_ok Rattle.rules.specs.Schemas.object_pairs_ok Rattle.rules.specs.Schemas.object_words_ok Rattle.rules.specs.Schemas.object_ok Rattle.rules.specs.Schemas.ref_ok Rattle.rules.specs.Schemas.schema_rule Rattle.rules.specs.Schemas.schema_ok Rattle.tables.specs.Check.whole_size Rattle.tables.specs.Check.used_size Rattle.tables.specs.Check.size_or Rattle.tables.specs.Check.texts_size Rattle.tables.specs.Check.sizes_fault Rattle.tables.specs.Check.record_count Rattle.tables.specs.Check.record_ok Rattle.tables.specs.Check.first_bad Rattle.tables.specs.Check.records_from Rattle.tables.specs.Check.records_fault Rattle.tables.specs.Check.lent_fault Rattle.tables.specs.Check.tables_fault Rattle.lookup.specs.Find.last_below Rattle.lookup.specs.Find.first_from Rattle.lookup.specs.Lookup.key_is Rattle.lookup.specs.Lookup.entry_key Rattle.lookup.specs.Lookup.entry_value Rattle.lookup.specs.Lookup.item_node Rattle.lookup.specs.Lookup.entry_has_key Rattle.lookup.specs.Lookup.last_entry Rattle.lookup.specs.Lookup.pair_has_key Rattle.lookup.specs.Lookup.property_of Rattle.lookup.specs.Lookup.entry_is_named Rattle.lookup.specs.Lookup.resolve_of Rattle.lookup.specs.Lookup.find_in Rattle.lookup.specs.Lookup.answers_pattern Rattle.lookup.specs.Lookup.answer_of_pattern Rattle.schema.specs.Look.slice Rattle.schema.specs.Look.pairs_from Rattle.schema.specs.Look.own_words Rattle.schema.specs.Look.note_at Rattle.schema.specs.Look.own_of Rattle.schema.specs.Look.array_of Rattle.schema.specs.Look.object_of Rattle.schema.specs.Look.raw Rattle.schema.specs.Look.bases Rattle.schema.specs.Look.detecting Rattle.schema.specs.Look.sort_names Rattle.schema.specs.Look.sort_shape Rattle.schema.specs.Look.look Rattle.merge.specs.Merge.later Rattle.merge.specs.Merge.with_tags Rattle.merge.specs.Merge.put Rattle.merge.specs.Merge.put_all Rattle.merge.specs.Merge.gather Rattle.merge.specs.Pairs.pairs_at Rattle.merge.specs.Pairs.flat_pairs Rattle.merge.specs.Pairs.merge_all Rattle.merge.specs.Pairs.span Rattle.compilation.specs.Compile.objects_of Rattle.compilation.specs.Compile.looks Rattle.compilation.specs.Compile.add_note Rattle.compilation.specs.Compile.add_row Rattle.compilation.specs.Compile.add_links Rattle.compilation.specs.Compile.add_list Rattle.compilation.specs.Compile.add_array Rattle.compilation.specs.Compile.add_object Rattle.compilation.specs.Compile.add_merged Rattle.compilation.specs.Compile.each Rattle.compilation.specs.Compile.each_pair Rattle.compilation.specs.Compile.optionally Rattle.compilation.specs.Compile.compile_shape Rattle.compilation.specs.Compile.compile_at Rattle.compilation.specs.Entry.used_tables Rattle.compilation.specs.Entry.used_fault Rattle.compilation.specs.Entry.room_of Rattle.compilation.specs.Entry.compiled_of Rattle.compilation.specs.Entry.compile_of Rattle.judge.specs.Judge.length_in Rattle.judge.specs.Judge.is_short Rattle.judge.specs.Judge.is_long Rattle.judge.specs.Judge.count_verdict Rattle.judge.specs.Judge.real_at Rattle.judge.specs.Judge.bounds_of Rattle.judge.specs.Judge.answer_wrong Rattle.judge.specs.Judge.mismatch Rattle.judge.specs.Judge.boolean_verdict Rattle.judge.specs.Judge.null_verdict Rattle.judge.specs.Judge.value_verdict Rattle.judge.specs.Judge.number_verdict Rattle.judge.specs.Judge.pattern_verdict Rattle.judge.specs.Judge.string_verdict Rattle.judge.specs.Judge.is_listed Rattle.judge.specs.Judge.any_repeated Rattle.judge.specs.Judge.enum_verdict Rattle.judge.specs.Judge.items_of Rattle.judge.specs.Judge.unique_verdict Rattle.judge.specs.Judge.array_verdict Rattle.judge.specs.Judge.has_earlier Rattle.judge.specs.Judge.is_duplicate Rattle.judge.specs.Judge.keys_verdict Rattle.judge.specs.Judge.object_verdict Rattle.judge.specs.Judge.has_key Rattle.judge.specs.Judge.missing Rattle.judge.specs.Judge.required_verdict Rattle.judge.specs.Judge.size_verdict Rattle.judge.specs.Judge.before_entries Rattle.judge.specs.Judge.judge_of Rattle.validator.specs.Validate.visit_of Rattle.validator.specs.Validate.validate_of Rattle.validator.specs.Visit.find_pair Rattle.validator.specs.Visit.all_over Rattle.validator.specs.Visit.any_over Rattle.validator.specs.Visit.items_over Rattle.validator.specs.Visit.required_over Rattle.validator.specs.Visit.entries_over Rattle.validator.specs.Visit.object_at Rattle.validator.specs.Visit.array_at Rattle.validator.specs.Visit.visit_body Rattle.validator.specs.Visit.visit_at Rattle.validator.specs.Nodes.entry_of Rattle.validator.specs.Nodes.entries_from Rattle.error.specs.Answers.answer_of Rattle.error.specs.Answers.refusal_of Rattle.error.specs.Answers.with_used Rattle.error.specs.Paths.path_words Rattle.error.specs.Paths.instance_buffer Rattle.error.specs.Paths.schema_buffer Rattle.error.specs.Paths.read_path Rattle.keeping.specs.Left.left_by Rattle.merge.specs.Pairs.record_pairs
flat_number = refl

grouped-number : (validate_with lent (compile_of lent used 8) Source 2 128 64).answer.number ≡ 1
unfolding lent Rattle.grouping.proofs.Example.T Rattle.grouping.proofs.Example.plainly Rattle.grouping.proofs.Example.string Rattle.grouping.proofs.Example.thing Rattle.grouping.proofs.Example.eager_ref Rattle.grouping.proofs.Example.list_of_it Rattle.text.specs.Text.text_count Rattle.text.specs.Text.text_word Rattle.text.specs.Text.text_start Rattle.text.specs.Text.text_length Rattle.text.specs.Text.fits_in Rattle.text.specs.Text.part_of Rattle.text.specs.Text.text_fits Rattle.text.specs.Text.text_of Rattle.text.specs.Text.same_bytes Rattle.text.specs.Text.same_text Rattle.text.specs.Text.padded Rattle.text.specs.Utf8.lead_of Rattle.text.specs.Utf8.step_of Rattle.text.specs.Utf8.utf8_of Rattle.text.specs.Utf8.point_of Rattle.text.specs.Utf8.code_points_of Rattle.layout.specs.Layout.node_count Rattle.layout.specs.Layout.note_count Rattle.layout.specs.Layout.schema_count Rattle.layout.specs.Layout.entry_count Rattle.layout.specs.Layout.pattern_count Rattle.layout.specs.Layout.node_word Rattle.layout.specs.Layout.note_word Rattle.layout.specs.Layout.schema_word Rattle.layout.specs.Layout.registry_word Rattle.layout.specs.Layout.pattern_word Rattle.layout.specs.Layout.pair_key Rattle.layout.specs.Layout.pair_value Rattle.layout.specs.Walk.every Rattle.layout.specs.Walk.first Rattle.lists.specs.Lists.optional_below Rattle.lists.specs.Lists.link_below Rattle.lists.specs.Lists.list_below Rattle.lists.specs.Lists.pair_ok Rattle.lists.specs.Lists.keys_differ Rattle.lists.specs.Lists.key_is_new Rattle.lists.specs.Lists.keys_distinct Rattle.lists.specs.Lists.pairs_below Rattle.lists.specs.Lists.pairs_ok Rattle.records.specs.Records.counts_in Rattle.records.specs.Records.text_ok Rattle.records.specs.Records.plain_node_ok Rattle.records.specs.Records.boolean_node_ok Rattle.records.specs.Records.place_node_ok Rattle.records.specs.Records.real_node_ok Rattle.records.specs.Records.list_node_ok Rattle.records.specs.Records.node_rule Rattle.records.specs.Records.node_ok Rattle.records.specs.Records.note_ok Rattle.records.specs.Records.entry_ok Rattle.records.specs.Records.pattern_ok Rattle.rules.specs.Schemas.unused_at Rattle.rules.specs.Schemas.unused_from Rattle.rules.specs.Schemas.schema_note_ok Rattle.rules.specs.Schemas.true_ok Rattle.rules.specs.Schemas.number_ok Rattle.rules.specs.Schemas.string_ok Rattle.rules.specs.Schemas.list_ok Rattle.rules.specs.Schemas.array_ok Rattle.rules.specs.Schemas.bases_ok Rattle.rules.specs.Schemas.object_pairs_ok Rattle.rules.specs.Schemas.object_words_ok Rattle.rules.specs.Schemas.object_ok Rattle.rules.specs.Schemas.ref_ok Rattle.rules.specs.Schemas.schema_rule Rattle.rules.specs.Schemas.schema_ok Rattle.tables.specs.Check.whole_size Rattle.tables.specs.Check.used_size Rattle.tables.specs.Check.size_or Rattle.tables.specs.Check.texts_size Rattle.tables.specs.Check.sizes_fault Rattle.tables.specs.Check.record_count Rattle.tables.specs.Check.record_ok Rattle.tables.specs.Check.first_bad Rattle.tables.specs.Check.records_from Rattle.tables.specs.Check.records_fault Rattle.tables.specs.Check.lent_fault Rattle.tables.specs.Check.tables_fault Rattle.lookup.specs.Find.last_below Rattle.lookup.specs.Find.first_from Rattle.lookup.specs.Lookup.key_is Rattle.lookup.specs.Lookup.entry_key Rattle.lookup.specs.Lookup.entry_value Rattle.lookup.specs.Lookup.item_node Rattle.lookup.specs.Lookup.entry_has_key Rattle.lookup.specs.Lookup.last_entry Rattle.lookup.specs.Lookup.pair_has_key Rattle.lookup.specs.Lookup.property_of Rattle.lookup.specs.Lookup.entry_is_named Rattle.lookup.specs.Lookup.resolve_of Rattle.lookup.specs.Lookup.find_in Rattle.lookup.specs.Lookup.answers_pattern Rattle.lookup.specs.Lookup.answer_of_pattern Rattle.schema.specs.Look.slice Rattle.schema.specs.Look.pairs_from Rattle.schema.specs.Look.own_words Rattle.schema.specs.Look.note_at Rattle.schema.specs.Look.own_of Rattle.schema.specs.Look.array_of Rattle.schema.specs.Look.object_of Rattle.schema.specs.Look.raw Rattle.schema.specs.Look.bases Rattle.schema.specs.Look.detecting Rattle.schema.specs.Look.sort_names Rattle.schema.specs.Look.sort_shape Rattle.schema.specs.Look.look Rattle.merge.specs.Merge.later Rattle.merge.specs.Merge.with_tags Rattle.merge.specs.Merge.put Rattle.merge.specs.Merge.put_all Rattle.merge.specs.Merge.gather Rattle.merge.specs.Pairs.pairs_at Rattle.merge.specs.Pairs.flat_pairs Rattle.merge.specs.Pairs.merge_all Rattle.merge.specs.Pairs.span Rattle.compilation.specs.Compile.objects_of Rattle.compilation.specs.Compile.looks Rattle.compilation.specs.Compile.add_note Rattle.compilation.specs.Compile.add_row Rattle.compilation.specs.Compile.add_links Rattle.compilation.specs.Compile.add_list Rattle.compilation.specs.Compile.add_array Rattle.compilation.specs.Compile.add_object Rattle.compilation.specs.Compile.add_merged Rattle.compilation.specs.Compile.each Rattle.compilation.specs.Compile.each_pair Rattle.compilation.specs.Compile.optionally Rattle.compilation.specs.Compile.compile_shape Rattle.compilation.specs.Compile.compile_at Rattle.compilation.specs.Entry.used_tables Rattle.compilation.specs.Entry.used_fault Rattle.compilation.specs.Entry.room_of Rattle.compilation.specs.Entry.compiled_of Rattle.compilation.specs.Entry.compile_of Rattle.judge.specs.Judge.length_in Rattle.judge.specs.Judge.is_short Rattle.judge.specs.Judge.is_long Rattle.judge.specs.Judge.count_verdict Rattle.judge.specs.Judge.real_at Rattle.judge.specs.Judge.bounds_of Rattle.judge.specs.Judge.answer_wrong Rattle.judge.specs.Judge.mismatch Rattle.judge.specs.Judge.boolean_verdict Rattle.judge.specs.Judge.null_verdict Rattle.judge.specs.Judge.value_verdict Rattle.judge.specs.Judge.number_verdict Rattle.judge.specs.Judge.pattern_verdict Rattle.judge.specs.Judge.string_verdict Rattle.judge.specs.Judge.is_listed Rattle.judge.specs.Judge.any_repeated Rattle.judge.specs.Judge.enum_verdict Rattle.judge.specs.Judge.items_of Rattle.judge.specs.Judge.unique_verdict Rattle.judge.specs.Judge.array_verdict Rattle.judge.specs.Judge.has_earlier Rattle.judge.specs.Judge.is_duplicate Rattle.judge.specs.Judge.keys_verdict Rattle.judge.specs.Judge.object_verdict Rattle.judge.specs.Judge.has_key Rattle.judge.specs.Judge.missing Rattle.judge.specs.Judge.required_verdict Rattle.judge.specs.Judge.size_verdict Rattle.judge.specs.Judge.before_entries Rattle.judge.specs.Judge.judge_of Rattle.validator.specs.Validate.visit_of Rattle.validator.specs.Validate.validate_of Rattle.validator.specs.Visit.find_pair Rattle.validator.specs.Visit.all_over Rattle.validator.specs.Visit.any_over Rattle.validator.specs.Visit.items_over Rattle.validator.specs.Visit.required_over Rattle.validator.specs.Visit.entries_over Rattle.validator.specs.Visit.object_at Rattle.validator.specs.Visit.array_at Rattle.validator.specs.Visit.visit_body Rattle.validator.specs.Visit.visit_at Rattle.validator.specs.Nodes.entry_of Rattle.validator.specs.Nodes.entries_from Rattle.error.specs.Answers.answer_of Rattle.error.specs.Answers.refusal_of Rattle.error.specs.Answers.with_used Rattle.error.specs.Paths.path_words Rattle.error.specs.Paths.instance_buffer Rattle.error.specs.Paths.schema_buffer Rattle.error.specs.Paths.read_path Rattle.keeping.specs.Left.left_by Rattle.merge.specs.Pairs.record_pairs
grouped-number = refl

other : {n : ℕ} → n ≡ 1 → n ≡ 23 → ⊥
other e f = omega arith

-- null is no boolean: both calls refuse it alike
pub refused_alike : SameCall (left_by lent (compile_of lent used 7)) (left_by lent (compile_of lent used 8)) (validate_with lent (compile_of lent used 7) Source 2 128 64) (validate_with lent (compile_of lent used 8) Source 2 128 64)
refused_alike =
    bases_may_be_grouped_calls lent used 7 8 6 (subst (λ (X : Tables). Grouped (words_of X) 7 8 6) (sym used_are) grouped) flat_compiles grouped-compiles
    Source 2 128 64 node_there (omega arith) (omega arith) (other flat_number) (other grouped-number)
