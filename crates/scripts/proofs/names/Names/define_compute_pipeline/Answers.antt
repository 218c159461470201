use Rattle.std.proofs.Common.{rules, string_bytes}
use Rattle.std.proofs.lemmas.Map.Text.{btree_map_updates_text}
use Rattle.scripts.proofs.names.Names.define_compute_pipeline.Goals as goal

pub returns-clause-defined : goal.returns-clause-defined
returns-clause-defined c = (
  c.in_ok-layout.field-0,
  (
    search rules,
    btree_map_updates_text (string_bytes c.args.name) c.args.self.now.compute_pipelines c.insert.new.self _ c.in_ok-insert.ensures.updates,
  ),
)
