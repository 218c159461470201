use Rattle.std.proofs.Common.{◌≡◌, ℕ, ◌+◌, ◌<◌, length, get_or, set, arith}
use Rattle.std.proofs.lemmas.Grind.{common_steps}
use Rattle.device.specs.Devices.{counted}
use Rattle.board.specs.declared.state.State.{State}
use Rattle.board.specs.Boards.{device_of}
use Rattle.board.proofs.state.State.count_code.Goals as goal

-- a state with one code counted
counted_device : (s : State) (i k : ℕ) → i < length s.counts → i ≡ k → device_of (record s { counts = set s.counts i (get_or s.counts i 0 + 1) }) ≡ counted k (device_of s)
counted_device s i k h e = grind (arith, common_steps)

pub returns : goal.returns
returns c = counted_device c.args.self.now c.from.result _ (grind arith) c.from.ensures
