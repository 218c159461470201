-- Commands that change nothing of a device but its counts of codes.
use Rattle.std.proofs.Common.{◌≡◌, ℕ, Bool, true, false, ◌&&◌, List, [], ◌∷◌, ◌++◌, refl, ◌∙◌}
use Rattle.std.proofs.lemmas.Bool.{false≢true, and_parts, and_from}
use Rattle.command_list.specs.Commands.{Command, SetRootSignature, SetPipelineState, IASetVertexBuffers, SetRoot32BitConstant, SetRootDescriptorTable, SetRootConstantBufferView, DrawInstanced, Dispatch, ExecuteIndirect}
use Rattle.device.specs.Devices.{Device, step, play}

abbrev pub is_quiet : Command → Bool
is_quiet (SetRootSignature h s) = false
is_quiet (SetPipelineState p) = false
is_quiet (IASetVertexBuffers i a s t) = false
is_quiet (SetRoot32BitConstant h i w v) = false
is_quiet (SetRootDescriptorTable h i a) = false
is_quiet (SetRootConstantBufferView h i a) = false
is_quiet (DrawInstanced a b c e) = false
is_quiet (Dispatch x y z) = false
is_quiet (ExecuteIndirect h s n b o) = false
is_quiet _ = true

abbrev pub are_quiet : List Command → Bool
are_quiet [] = true
are_quiet (c ∷ cs) = is_quiet c && are_quiet cs

-- but for its counts of codes a device is as it was
pub record Still (d e : Device) : Type 0 where
  pub halves : e.halves ≡ d.halves
  pub vertices : e.vertices ≡ d.vertices
  pub vertex_writes : e.vertex_writes ≡ d.vertex_writes
  pub pipeline : e.pipeline ≡ d.pipeline
  pub latest : e.latest ≡ d.latest

-- counts alone changed
still_one : (f : ℕ → ℕ) (d : Device) → Still d (record d { counts = f })
still_one f d = record { halves = refl; vertices = refl; vertex_writes = refl; pipeline = refl; latest = refl }

still_none : (d : Device) → Still d d
still_none d = still_one d.counts d

still_step : (c : Command) (d : Device) → is_quiet c ≡ true → Still d (step c d)
still_step (SetRootSignature h s) d q = absurd (false≢true q)
still_step (SetPipelineState p) d q = absurd (false≢true q)
still_step (IASetVertexBuffers i a s t) d q = absurd (false≢true q)
still_step (SetRoot32BitConstant h i w v) d q = absurd (false≢true q)
still_step (SetRootDescriptorTable h i a) d q = absurd (false≢true q)
still_step (SetRootConstantBufferView h i a) d q = absurd (false≢true q)
still_step (DrawInstanced a b c e) d q = absurd (false≢true q)
still_step (Dispatch x y z) d q = absurd (false≢true q)
still_step (ExecuteIndirect h s n b o) d q = absurd (false≢true q)
still_step _ d q = still_one _ d

-- quiet commands, one after the other, leave a device still
pub quiet_played : (cs : List Command) (d : Device) → are_quiet cs ≡ true → Still d (play cs d)
quiet_played [] d q = still_none d
quiet_played (c ∷ cs) d q =
    let p = and_parts (is_quiet c) (are_quiet cs) q in
    let a = still_step c d p.0 in
    let b = quiet_played cs (step c d) p.1 in
    record {
      halves = b.halves ∙ a.halves;
      vertices = b.vertices ∙ a.vertices;
      vertex_writes = b.vertex_writes ∙ a.vertex_writes;
      pipeline = b.pipeline ∙ a.pipeline;
      latest = b.latest ∙ a.latest;
    }

pub quiet_append : (bs cs : List Command) → are_quiet bs ≡ true → are_quiet cs ≡ true → are_quiet (bs ++ cs) ≡ true
quiet_append [] cs p q = q
quiet_append (b ∷ bs) cs p q =
    let r = and_parts (is_quiet b) (are_quiet bs) p in
    and_from (is_quiet b) (are_quiet (bs ++ cs)) r.0 (quiet_append bs cs r.1 q)
