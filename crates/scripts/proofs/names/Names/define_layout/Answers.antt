use Rattle.std.proofs.Common.{rules, string_bytes}
use Rattle.std.proofs.lemmas.Map.Text.{btree_map_updates_text}
use Rattle.scripts.proofs.names.Names.define_layout.Goals as goal

pub returns-clause-defined : goal.returns-clause-defined
returns-clause-defined c = (
  c.in_ok-layout.layout,
  (
    search rules,
    btree_map_updates_text (string_bytes c.args.name) c.args.self.now.layouts c.insert.new.self _ c.in_ok-insert.ensures.updates,
  ),
)
