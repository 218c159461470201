-- Arrays as functions of a number.
use Rattle.std.proofs.Common.{◌≡◌, ℕ, ◌<◌, List, length, get_or, set, replicate, arith}
use Rattle.std.proofs.lemmas.Grind.{common_steps}
use Rattle.device.specs.Devices.{update}

pub read_set : {X Y : Type 0} (g : X → Y) (l : List X) (i : ℕ) (x d : X) → i < length l → (λ q. g (get_or (set l i x) q d)) ≡ update (λ q. g (get_or l q d)) i (g x)
read_set g l i x d h = grind (arith, common_steps)

pub read_replicate : {X : Type 0} (n : ℕ) (x d : X) → x ≡ d → (q : ℕ) → get_or (replicate n x) q d ≡ d
read_replicate n x d e q = grind (arith, common_steps)
