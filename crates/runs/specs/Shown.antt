-- What a recorder that shows its commands shows along a run.
use Rattle.std.specs.Prelude.{◌≡◌, ◌+◌, List, [], ◌∷◌, ◌++◌, Some}
use Rattle.command_list.specs.Commands.{Command}
use Rattle.device.specs.Devices.{play, start}
use Rattle.device.specs.Meaning.{sizes}
use Rattle.passes.specs.Calls.{DrawCall}
use Rattle.encoder.specs.Scenes.{Call, begin_encoding, drawing, idle, start_of, taken, Scene}
use Rattle.runs.specs.Marks.{Moment, Run, records_at, but_last, found}

-- what a call leaves of a list: the beginning of one leaves nothing of the one before it
abbrev pub left_by : Call → List Command → List Command
left_by begin_encoding cs = []
left_by _ cs = cs

-- what holds of an accepted call over a recorder that showed the commands cs before it
pub record Shows (m : Moment) (cs : List Command) : Type 0 where
  -- its own commands are shown behind them
  pub shown : m.after.meaning.shown ≡ Some (left_by m.call cs ++ records_at m)
  -- the space falls by exactly the bytes of its records
  pub falls : (start_of m.call m.before.meaning).space ≡ m.after.meaning.space + sizes (records_at m)
  -- a draw finds the device that the commands shown so far play to, those of its own flush among them
  pub finds : (c : DrawCall) → m.call ≡ drawing c → found m ≡ play (cs ++ but_last (records_at m)) start

-- each accepted call of a run does so
abbrev pub EachShows : List Moment → Type 0
EachShows run =
    (past : List Moment) (m : Moment) (rest : List Moment) (cs : List Command)
    → run ≡ past ++ (m ∷ rest) → m.answer ≡ taken → m.before.meaning.shown ≡ Some cs → Shows m cs

abbrev pub EveryRunShows : Type 0
EveryRunShows = (s : Scene) (run : List Moment) (t : Scene) → s.stage ≡ idle → Run s run t → EachShows run
