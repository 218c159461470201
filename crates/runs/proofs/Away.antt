-- Calls that a phase does not have.
use Rattle.std.proofs.Common.{◌≡◌, ℕ, true, false, List, Option, refl, sym, ap, ◌∙◌, Bor}
use Rattle.std.proofs.lemmas.Bool.{true≢false}
use Rattle.command_list.specs.declared.command.Half.{Half}
use Rattle.command_list.specs.declared.command.Half.TheVariants.{Graphics, Compute}
use Rattle.layouts.specs.declared.layout.PipelineLayout.{PipelineLayout}
use Rattle.layouts.specs.declared.pipeline.RenderPipeline.{RenderPipeline}
use Rattle.layouts.specs.declared.pipeline.ComputePipeline.{ComputePipeline}
use Rattle.bindings.specs.declared.binding.BufferBinding.{BufferBinding}
use Rattle.bindings.specs.declared.rect.Rect.{Rect}
use Rattle.resources.specs.declared.barrier.ResourceBarrier.{ResourceBarrier}
use Rattle.resources.specs.declared.uses.BufferUses.{BufferUses}
use Rattle.resources.specs.declared.uses.TextureUses.{TextureUses}
use Rattle.passes.specs.declared.state.BindGroup.{BindGroup}
use Rattle.passes.specs.Account.{Account}
use Rattle.encoder.specs.declared.attachment.ColorAttachment.{ColorAttachment}
use Rattle.encoder.specs.Scenes.{Call as SceneCall, idle, recording, in_pass, offers, same_half}
use Rattle.encoder.proofs.Handling.{renders, computes}
use Rattle.runs.specs.declared.call.Call.{Call}
use Rattle.runs.specs.declared.call.Call.TheVariants as call
use Rattle.runs.specs.Offering.{call_of}
use Rattle.runs.specs.Leaving.{leaves}

-- a call that leaves its phase is none that keeps to it
pub apart : {c d : Call} → leaves c ≡ true → leaves d ≡ false → c ≡ d → ⊥
apart l k e = true≢false (sym l ∙ ap leaves e ∙ k)

pub apart_from : {c d : Call} → leaves c ≡ false → leaves d ≡ true → c ≡ d → ⊥
apart_from k l e = apart l k (sym e)

-- a pass of a half offers what any pass of that half does
abbrev of_half : Half → Account → Account
of_half h a = record { half = h; labelled = a.labelled; pipeline = a.pipeline; roots = a.roots; vertices = a.vertices }

by_kind : (h : Half) (a : Account) (c : SceneCall) → offers (in_pass (of_half h a)) c ≡ false → a.half ≡ h → offers (in_pass a) c ≡ false
by_kind h a c e q = ap (λ k. offers (in_pass (of_half k a)) c) q ∙ e

pub away_idle : (len fill : ℕ) (c : Call) → (c ≡ call.BeginEncoding → ⊥) → offers (idle) (call_of len fill c) ≡ false
away_idle len fill call.BeginEncoding n0 = absurd (n0 refl)
away_idle len fill call.EndEncoding n0 = refl
away_idle len fill call.DiscardEncoding n0 = refl
away_idle len fill (call.TransitionBuffers x0) n0 = refl
away_idle len fill (call.TransitionTextures x0) n0 = refl
away_idle len fill (call.BeginRenderPass x0 x1 x2 x3) n0 = refl
away_idle len fill call.EndRenderPass n0 = refl
away_idle len fill (call.BeginComputePass x0) n0 = refl
away_idle len fill call.EndComputePass n0 = refl
away_idle len fill (call.SetBindGroup x0 x1 x2 x3) n0 = refl
away_idle len fill (call.SetImmediates x0 x1 x2) n0 = refl
away_idle len fill (call.SetRenderPipeline x0) n0 = refl
away_idle len fill (call.SetComputePipeline x0) n0 = refl
away_idle len fill (call.SetVertexBuffer x0 x1) n0 = refl
away_idle len fill (call.SetViewport x0) n0 = refl
away_idle len fill (call.SetScissorRect x0) n0 = refl
away_idle len fill (call.Draw x0 x1 x2 x3) n0 = refl
away_idle len fill (call.DrawIndirect x0 x1 x2) n0 = refl
away_idle len fill (call.DispatchWorkgroups x0) n0 = refl
away_idle len fill (call.DispatchWorkgroupsIndirect x0 x1) n0 = refl

pub away_list : (len fill : ℕ) (c : Call) → (c ≡ call.EndEncoding → ⊥) → (c ≡ call.DiscardEncoding → ⊥) → ((bs : Bor (List (ResourceBarrier BufferUses))) → c ≡ call.TransitionBuffers bs → ⊥) → ((bs : Bor (List (ResourceBarrier TextureUses))) → c ≡ call.TransitionTextures bs → ⊥) → ((o : Option (Bor (List ℕ))) (w : ℕ) (h : ℕ) (os : Bor (List (Option ColorAttachment))) → c ≡ call.BeginRenderPass o w h os → ⊥) → ((o : Option (Bor (List ℕ))) → c ≡ call.BeginComputePass o → ⊥) → offers (recording) (call_of len fill c) ≡ false
away_list len fill call.BeginEncoding n0 n1 n2 n3 n4 n5 = refl
away_list len fill call.EndEncoding n0 n1 n2 n3 n4 n5 = absurd (n0 refl)
away_list len fill call.DiscardEncoding n0 n1 n2 n3 n4 n5 = absurd (n1 refl)
away_list len fill (call.TransitionBuffers x0) n0 n1 n2 n3 n4 n5 = absurd (n2 x0 refl)
away_list len fill (call.TransitionTextures x0) n0 n1 n2 n3 n4 n5 = absurd (n3 x0 refl)
away_list len fill (call.BeginRenderPass x0 x1 x2 x3) n0 n1 n2 n3 n4 n5 = absurd (n4 x0 x1 x2 x3 refl)
away_list len fill call.EndRenderPass n0 n1 n2 n3 n4 n5 = refl
away_list len fill (call.BeginComputePass x0) n0 n1 n2 n3 n4 n5 = absurd (n5 x0 refl)
away_list len fill call.EndComputePass n0 n1 n2 n3 n4 n5 = refl
away_list len fill (call.SetBindGroup x0 x1 x2 x3) n0 n1 n2 n3 n4 n5 = refl
away_list len fill (call.SetImmediates x0 x1 x2) n0 n1 n2 n3 n4 n5 = refl
away_list len fill (call.SetRenderPipeline x0) n0 n1 n2 n3 n4 n5 = refl
away_list len fill (call.SetComputePipeline x0) n0 n1 n2 n3 n4 n5 = refl
away_list len fill (call.SetVertexBuffer x0 x1) n0 n1 n2 n3 n4 n5 = refl
away_list len fill (call.SetViewport x0) n0 n1 n2 n3 n4 n5 = refl
away_list len fill (call.SetScissorRect x0) n0 n1 n2 n3 n4 n5 = refl
away_list len fill (call.Draw x0 x1 x2 x3) n0 n1 n2 n3 n4 n5 = refl
away_list len fill (call.DrawIndirect x0 x1 x2) n0 n1 n2 n3 n4 n5 = refl
away_list len fill (call.DispatchWorkgroups x0) n0 n1 n2 n3 n4 n5 = refl
away_list len fill (call.DispatchWorkgroupsIndirect x0 x1) n0 n1 n2 n3 n4 n5 = refl

pub away_render : (len fill : ℕ) (c : Call) → (a : Account) → same_half a.half Graphics ≡ true → (c ≡ call.DiscardEncoding → ⊥) → (c ≡ call.EndRenderPass → ⊥) → ((l : Bor PipelineLayout) (i : ℕ) (g : BindGroup) (os : Bor (List ℕ)) → c ≡ call.SetBindGroup l i g os → ⊥) → ((l : Bor PipelineLayout) (at : ℕ) (ws : Bor (List ℕ)) → c ≡ call.SetImmediates l at ws → ⊥) → ((p : Bor RenderPipeline) → c ≡ call.SetRenderPipeline p → ⊥) → ((i : ℕ) (x : BufferBinding) → c ≡ call.SetVertexBuffer i x → ⊥) → ((v : List ℕ) → c ≡ call.SetViewport v → ⊥) → ((r : Rect) → c ≡ call.SetScissorRect r → ⊥) → ((a : ℕ) (b : ℕ) (d : ℕ) (e : ℕ) → c ≡ call.Draw a b d e → ⊥) → ((b : ℕ) (o : ℕ) (n : ℕ) → c ≡ call.DrawIndirect b o n → ⊥) → offers (in_pass a) (call_of len fill c) ≡ false
away_render len fill call.BeginEncoding a s n0 n1 n2 n3 n4 n5 n6 n7 n8 n9 = refl
away_render len fill call.EndEncoding a s n0 n1 n2 n3 n4 n5 n6 n7 n8 n9 = refl
away_render len fill call.DiscardEncoding a s n0 n1 n2 n3 n4 n5 n6 n7 n8 n9 = absurd (n0 refl)
away_render len fill (call.TransitionBuffers x0) a s n0 n1 n2 n3 n4 n5 n6 n7 n8 n9 = by_kind Graphics a (call_of len fill (call.TransitionBuffers x0)) refl (renders a.half s)
away_render len fill (call.TransitionTextures x0) a s n0 n1 n2 n3 n4 n5 n6 n7 n8 n9 = by_kind Graphics a (call_of len fill (call.TransitionTextures x0)) refl (renders a.half s)
away_render len fill (call.BeginRenderPass x0 x1 x2 x3) a s n0 n1 n2 n3 n4 n5 n6 n7 n8 n9 = refl
away_render len fill call.EndRenderPass a s n0 n1 n2 n3 n4 n5 n6 n7 n8 n9 = absurd (n1 refl)
away_render len fill (call.BeginComputePass x0) a s n0 n1 n2 n3 n4 n5 n6 n7 n8 n9 = refl
away_render len fill call.EndComputePass a s n0 n1 n2 n3 n4 n5 n6 n7 n8 n9 = ap (same_half Compute) (renders a.half s)
away_render len fill (call.SetBindGroup x0 x1 x2 x3) a s n0 n1 n2 n3 n4 n5 n6 n7 n8 n9 = absurd (n2 x0 x1 x2 x3 refl)
away_render len fill (call.SetImmediates x0 x1 x2) a s n0 n1 n2 n3 n4 n5 n6 n7 n8 n9 = absurd (n3 x0 x1 x2 refl)
away_render len fill (call.SetRenderPipeline x0) a s n0 n1 n2 n3 n4 n5 n6 n7 n8 n9 = absurd (n4 x0 refl)
away_render len fill (call.SetComputePipeline x0) a s n0 n1 n2 n3 n4 n5 n6 n7 n8 n9 = by_kind Graphics a (call_of len fill (call.SetComputePipeline x0)) refl (renders a.half s)
away_render len fill (call.SetVertexBuffer x0 x1) a s n0 n1 n2 n3 n4 n5 n6 n7 n8 n9 = absurd (n5 x0 x1 refl)
away_render len fill (call.SetViewport x0) a s n0 n1 n2 n3 n4 n5 n6 n7 n8 n9 = absurd (n6 x0 refl)
away_render len fill (call.SetScissorRect x0) a s n0 n1 n2 n3 n4 n5 n6 n7 n8 n9 = absurd (n7 x0 refl)
away_render len fill (call.Draw x0 x1 x2 x3) a s n0 n1 n2 n3 n4 n5 n6 n7 n8 n9 = absurd (n8 x0 x1 x2 x3 refl)
away_render len fill (call.DrawIndirect x0 x1 x2) a s n0 n1 n2 n3 n4 n5 n6 n7 n8 n9 = absurd (n9 x0 x1 x2 refl)
away_render len fill (call.DispatchWorkgroups x0) a s n0 n1 n2 n3 n4 n5 n6 n7 n8 n9 = by_kind Graphics a (call_of len fill (call.DispatchWorkgroups x0)) refl (renders a.half s)
away_render len fill (call.DispatchWorkgroupsIndirect x0 x1) a s n0 n1 n2 n3 n4 n5 n6 n7 n8 n9 = by_kind Graphics a (call_of len fill (call.DispatchWorkgroupsIndirect x0 x1)) refl (renders a.half s)

pub away_compute : (len fill : ℕ) (c : Call) → (a : Account) → same_half a.half Compute ≡ true → (c ≡ call.DiscardEncoding → ⊥) → (c ≡ call.EndComputePass → ⊥) → ((l : Bor PipelineLayout) (i : ℕ) (g : BindGroup) (os : Bor (List ℕ)) → c ≡ call.SetBindGroup l i g os → ⊥) → ((l : Bor PipelineLayout) (at : ℕ) (ws : Bor (List ℕ)) → c ≡ call.SetImmediates l at ws → ⊥) → ((p : Bor ComputePipeline) → c ≡ call.SetComputePipeline p → ⊥) → ((n : List ℕ) → c ≡ call.DispatchWorkgroups n → ⊥) → ((b : ℕ) (o : ℕ) → c ≡ call.DispatchWorkgroupsIndirect b o → ⊥) → ((bs : Bor (List (ResourceBarrier BufferUses))) → c ≡ call.TransitionBuffers bs → ⊥) → ((bs : Bor (List (ResourceBarrier TextureUses))) → c ≡ call.TransitionTextures bs → ⊥) → offers (in_pass a) (call_of len fill c) ≡ false
away_compute len fill call.BeginEncoding a s n0 n1 n2 n3 n4 n5 n6 n7 n8 = refl
away_compute len fill call.EndEncoding a s n0 n1 n2 n3 n4 n5 n6 n7 n8 = refl
away_compute len fill call.DiscardEncoding a s n0 n1 n2 n3 n4 n5 n6 n7 n8 = absurd (n0 refl)
away_compute len fill (call.TransitionBuffers x0) a s n0 n1 n2 n3 n4 n5 n6 n7 n8 = absurd (n7 x0 refl)
away_compute len fill (call.TransitionTextures x0) a s n0 n1 n2 n3 n4 n5 n6 n7 n8 = absurd (n8 x0 refl)
away_compute len fill (call.BeginRenderPass x0 x1 x2 x3) a s n0 n1 n2 n3 n4 n5 n6 n7 n8 = refl
away_compute len fill call.EndRenderPass a s n0 n1 n2 n3 n4 n5 n6 n7 n8 = ap (same_half Graphics) (computes a.half s)
away_compute len fill (call.BeginComputePass x0) a s n0 n1 n2 n3 n4 n5 n6 n7 n8 = refl
away_compute len fill call.EndComputePass a s n0 n1 n2 n3 n4 n5 n6 n7 n8 = absurd (n1 refl)
away_compute len fill (call.SetBindGroup x0 x1 x2 x3) a s n0 n1 n2 n3 n4 n5 n6 n7 n8 = absurd (n2 x0 x1 x2 x3 refl)
away_compute len fill (call.SetImmediates x0 x1 x2) a s n0 n1 n2 n3 n4 n5 n6 n7 n8 = absurd (n3 x0 x1 x2 refl)
away_compute len fill (call.SetRenderPipeline x0) a s n0 n1 n2 n3 n4 n5 n6 n7 n8 = by_kind Compute a (call_of len fill (call.SetRenderPipeline x0)) refl (computes a.half s)
away_compute len fill (call.SetComputePipeline x0) a s n0 n1 n2 n3 n4 n5 n6 n7 n8 = absurd (n4 x0 refl)
away_compute len fill (call.SetVertexBuffer x0 x1) a s n0 n1 n2 n3 n4 n5 n6 n7 n8 = by_kind Compute a (call_of len fill (call.SetVertexBuffer x0 x1)) refl (computes a.half s)
away_compute len fill (call.SetViewport x0) a s n0 n1 n2 n3 n4 n5 n6 n7 n8 = by_kind Compute a (call_of len fill (call.SetViewport x0)) refl (computes a.half s)
away_compute len fill (call.SetScissorRect x0) a s n0 n1 n2 n3 n4 n5 n6 n7 n8 = by_kind Compute a (call_of len fill (call.SetScissorRect x0)) refl (computes a.half s)
away_compute len fill (call.Draw x0 x1 x2 x3) a s n0 n1 n2 n3 n4 n5 n6 n7 n8 = by_kind Compute a (call_of len fill (call.Draw x0 x1 x2 x3)) refl (computes a.half s)
away_compute len fill (call.DrawIndirect x0 x1 x2) a s n0 n1 n2 n3 n4 n5 n6 n7 n8 = by_kind Compute a (call_of len fill (call.DrawIndirect x0 x1 x2)) refl (computes a.half s)
away_compute len fill (call.DispatchWorkgroups x0) a s n0 n1 n2 n3 n4 n5 n6 n7 n8 = absurd (n5 x0 refl)
away_compute len fill (call.DispatchWorkgroupsIndirect x0 x1) a s n0 n1 n2 n3 n4 n5 n6 n7 n8 = absurd (n6 x0 x1 refl)
