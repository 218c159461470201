-- What a root signature and a pipeline come to, set with or without the signature before the pipeline.
use Rattle.std.proofs.Common.{◌≡◌, ℕ, Bool, true, false, cond, List, [], ◌∷◌, ◌++◌, refl, ap, ◌∙◌}
use Rattle.command_list.specs.declared.command.Half.{Half}
use Rattle.command_list.specs.Commands.{Command, SetRootSignature, SetPipelineState}
use Rattle.device.specs.Devices.{Device, Roots, signed, step, play}
use Rattle.device.proofs.Steps.{signed_writes, signed_signature, signed_kept}
use Rattle.device.proofs.Updates.{both_halves}
use Rattle.device.proofs.Quiets.{are_quiet, Still, quiet_played}
use Rattle.device.proofs.Slots.{Rooted, rooted_one}

-- the pipeline and its signature are set; slots are kept where the signature is the half's own already; nothing is written
pub record Piped (h : Half) (s handle : ℕ) (d e : Device) : Type 0 where
  pub on : e.pipeline ≡ handle
  pub signature : (e.halves h).signature ≡ s
  pub kept : (d.halves h).signature ≡ s → (e.halves h).slots ≡ (d.halves h).slots
  pub writes : (g : Half) → (e.halves g).writes ≡ (d.halves g).writes
  pub vertices : e.vertices ≡ d.vertices
  pub vertex_writes : e.vertex_writes ≡ d.vertex_writes

piped_still : (h : Half) (s handle : ℕ) (d e f : Device) → Piped h s handle d e → Still e f → Piped h s handle d f
piped_still h s handle d e f a b = record {
  on = b.pipeline ∙ a.on;
  signature = ap (λ (x : Half → Roots). (x h).signature) b.halves ∙ a.signature;
  kept = λ q. ap (λ (x : Half → Roots). (x h).slots) b.halves ∙ a.kept q;
  writes = λ g. ap (λ (x : Half → Roots). (x g).writes) b.halves ∙ a.writes g;
  vertices = b.vertices ∙ a.vertices;
  vertex_writes = b.vertex_writes ∙ a.vertex_writes;
}

pub piped_by : (h : Half) (s handle : ℕ) (b : Bool) (rest : List Command) (d : Device) → are_quiet rest ≡ true → (b ≡ true → (d.halves h).signature ≡ s)
    → Piped h s handle d (play (cond b [] (SetRootSignature h s ∷ []) ++ (SetPipelineState handle ∷ rest)) d)
piped_by h s handle true rest d q own =
    piped_still h s handle d (step (SetPipelineState handle) d) (play rest (step (SetPipelineState handle) d))
    (record { on = refl; signature = own refl; kept = λ _. refl; writes = λ g. refl; vertices = refl; vertex_writes = refl })
    (quiet_played rest (step (SetPipelineState handle) d) q)
piped_by h s handle false rest d q own =
    let a = step (SetRootSignature h s) d in
    let r : Rooted h (signed s) d a = rooted_one h (signed s) _ d in
    piped_still h s handle d (step (SetPipelineState handle) a) (play rest (step (SetPipelineState handle) a))
    (record {
      on = refl;
      signature = ap (λ (x : Roots). x.signature) r.here ∙ signed_signature s (d.halves h);
      kept = λ e. ap (λ (x : Roots). x.slots) r.here ∙ signed_kept s (d.halves h) e;
      writes = both_halves h (λ g. (a.halves g).writes ≡ (d.halves g).writes)
          (ap (λ (x : Roots). x.writes) r.here ∙ signed_writes s (d.halves h)) (ap (λ (x : Roots). x.writes) r.other);
      vertices = r.vertices;
      vertex_writes = r.vertex_writes;
    })
    (quiet_played rest (step (SetPipelineState handle) a) q)
