-- What an encoder over list bytes leaves in them.
use Rattle.std.specs.Prelude.{◌≡◌, ℕ, ◌+◌, List, [], ◌∷◌, ◌++◌, length}
use Rattle.command_list.specs.Files.{accepted, file}
use Rattle.device.specs.Meaning.{Meaning, sizes}
use Rattle.encoder.specs.Scenes.{start_of, taken, Scene}
use Rattle.encoder.specs.Phases.{fresh}
use Rattle.list_bytes.specs.Listed.{Opened}
use Rattle.runs.specs.declared.call.Call.{Call}
use Rattle.runs.specs.declared.call.Answer.{Answer}
use Rattle.runs.specs.Marks.{Moment, records_at}
use Rattle.runs.specs.Driven.{Driven}
use Rattle.runs.specs.Encoded.{recorded}

-- An encoder was driven through the calls over an empty list in n bytes. The file that it left is accepted, and its
-- commands are those of the accepted calls, in their order, since the latest list was begun. At each accepted call the
-- space falls by exactly the bytes of its records, and the space that is left is what the file does not take.
pub record ReadsBack (null_target n len fill : ℕ) (calls : List Call) (before after : List Answer) (bs : List ℕ) : Type 0 where
  pub empty : Meaning
  pub opened : Opened n empty
  pub left : Scene
  pub driven : Driven (fresh null_target empty) len fill calls before after left
  pub reads_back : file bs ≡ accepted (recorded driven.run [])
  pub falls : (past : List Moment) (m : Moment) (rest : List Moment) → driven.run ≡ past ++ (m ∷ rest) → m.answer ≡ taken
      → (start_of m.call m.before.meaning).space ≡ m.after.meaning.space + sizes (records_at m)
  pub room : left.meaning.space + length bs ≡ n
