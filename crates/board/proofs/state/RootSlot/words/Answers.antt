use Rattle.std.proofs.Common.{◌≡◌, ◌≢◌, List, get_or, replicate, None, refl}
use mathlib.Core.Path.{fun_ext}
use Rattle.device.specs.Devices.{words_of}
use Rattle.device.proofs.Arrays.{read_replicate}
use Rattle.board.specs.declared.state.RootSlot.{RootSlot}
use Rattle.board.specs.declared.state.RootSlot.TheVariants.{Unset, Table, Buffer, Words}
use Rattle.board.specs.Boards.{slot_of}
use Rattle.board.proofs.state.RootSlot.words.Goals as goal

-- a slot that holds no words
no_words : (s : RootSlot) → ((ws : List _) → s ≢ Words ws) → (λ w. get_or (replicate 64 None) w None) ≡ words_of (slot_of s)
no_words Unset h = fun_ext (read_replicate 64 None None refl)
no_words (Table a) h = fun_ext (read_replicate 64 None None refl)
no_words (Buffer a) h = fun_ext (read_replicate 64 None None refl)
no_words (Words ws) h = absurd (h ws refl)

pub returns-in_default : goal.returns-in_default
returns-in_default c = record { same = no_words c.args.self c.in_default.not-Words; long = refl }
