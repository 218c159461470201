use Rattle.scripts.proofs.Others.{no_layout}
use Rattle.scripts.proofs.line.read_words.Goals as goal

pub returns-in_default-verb : goal.returns-in_default-verb
returns-in_default-verb c =
    no_layout c.args.words.now _ c.read_other.result c.in-len1-up.len_at_least c.in_default-verb.not-layout c.read_other.ensures
