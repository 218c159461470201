-- What the words of a call say.
use Rattle.std.specs.Prelude.{ℕ, List, [], ◌∷◌, map, Option, Some, None, option_map, if◌then◌else◌, codes, string_bytes}
use Rattle.bindings.specs.declared.binding.BufferBinding.{BufferBinding}
use Rattle.bindings.specs.declared.rect.Rect.{Rect}
use Rattle.resources.specs.declared.barrier.ResourceBarrier.{ResourceBarrier}
use Rattle.resources.specs.declared.uses.BufferUses.{BufferUses}
use Rattle.resources.specs.declared.uses.TextureUses.{TextureUses}
use Rattle.encoder.specs.declared.attachment.ColorAttachment.{ColorAttachment}
use Rattle.scripts.specs.declared.line.OwnedCall.{OwnedCall}
use Rattle.scripts.specs.declared.line.OwnedCall.TheVariants as owned
use Rattle.scripts.specs.declared.within.DynamicBuffer.{DynamicBuffer}
use Rattle.scripts.specs.Words.{Word, is, number, label, ◌>>=◌}
use Rattle.scripts.specs.Fronts.{Front, all}

-- a call with its operands: layouts and pipelines go by their names
pub data SaidCall : Type 0 where
  begin_encoding : SaidCall
  end_encoding : SaidCall
  discard_encoding : SaidCall
  transition_buffers : List (ResourceBarrier BufferUses) → SaidCall
  transition_textures : List (ResourceBarrier TextureUses) → SaidCall
  -- label, width, height, attachments
  begin_render_pass : Option (List ℕ) → ℕ → ℕ → List (Option ColorAttachment) → SaidCall
  end_render_pass : SaidCall
  begin_compute_pass : Option (List ℕ) → SaidCall
  end_compute_pass : SaidCall
  -- layout, index, table, bases, offsets
  set_bind_group : List ℕ → ℕ → ℕ → List ℕ → List ℕ → SaidCall
  -- layout, offset in bytes, words
  set_immediates : List ℕ → ℕ → List ℕ → SaidCall
  set_render_pipeline : List ℕ → SaidCall
  set_compute_pipeline : List ℕ → SaidCall
  -- slot, and a buffer with a part of it
  set_vertex_buffer : ℕ → BufferBinding → SaidCall
  set_viewport : List ℕ → SaidCall
  set_scissor_rect : Rect → SaidCall
  -- first vertex, vertex count, first instance, instance count
  draw : ℕ → ℕ → ℕ → ℕ → SaidCall
  -- buffer, offset, count
  draw_indirect : ℕ → ℕ → ℕ → SaidCall
  dispatch_workgroups : List ℕ → SaidCall
  dispatch_workgroups_indirect : ℕ → ℕ → SaidCall

-- a call of the program, seen so
abbrev pub seen_call : OwnedCall → SaidCall
seen_call owned.BeginEncoding = begin_encoding
seen_call owned.EndEncoding = end_encoding
seen_call owned.DiscardEncoding = discard_encoding
seen_call (owned.TransitionBuffers v) = transition_buffers v.items
seen_call (owned.TransitionTextures v) = transition_textures v.items
seen_call (owned.BeginRenderPass l w h ts) =
    begin_render_pass (option_map (λ v. v.items) l) w h ts.items
seen_call owned.EndRenderPass = end_render_pass
seen_call (owned.BeginComputePass l) = begin_compute_pass (option_map (λ v. v.items) l)
seen_call owned.EndComputePass = end_compute_pass
seen_call (owned.SetBindGroup l i t bs os) =
    set_bind_group (string_bytes l) i t bs.items os.items
seen_call (owned.SetImmediates l o ws) = set_immediates (string_bytes l) o ws.items
seen_call (owned.SetRenderPipeline n) = set_render_pipeline (string_bytes n)
seen_call (owned.SetComputePipeline n) = set_compute_pipeline (string_bytes n)
seen_call (owned.SetVertexBuffer s b) = set_vertex_buffer s b
seen_call (owned.SetViewport v) = set_viewport v
seen_call (owned.SetScissorRect r) = set_scissor_rect r
seen_call (owned.Draw a b c d) = draw a b c d
seen_call (owned.DrawIndirect b o n) = draw_indirect b o n
seen_call (owned.DispatchWorkgroups n) = dispatch_workgroups n
seen_call (owned.DispatchWorkgroupsIndirect b o) = dispatch_workgroups_indirect b o

-- a resource with its usages before and after; usages of a kind are made from their bits
abbrev pub change : {U : Type 0} → (ℕ → U) → Front (ResourceBarrier U)
change uses (r ∷ f ∷ t ∷ ws) = do
  resource ← number 32 r.now
  from ← number 32 f.now
  to ← number 32 t.now
  Some (record { resource = resource; usage = record { from = uses from; to = uses to } }, 3)
change uses ws = None

abbrev pub buffer_change : Front (ResourceBarrier BufferUses)
buffer_change = change (λ bits. record { bits = bits })

abbrev pub texture_change : Front (ResourceBarrier TextureUses)
texture_change = change (λ bits. record { bits = bits })

-- a base and an offset
abbrev pub dynamic_buffer : Front DynamicBuffer
dynamic_buffer (b ∷ o ∷ ws) = do
  base ← number 64 b.now
  offset ← number 32 o.now
  Some (record { base = base; offset = offset }, 2)
dynamic_buffer ws = None

abbrev pub word : Front ℕ
word (w ∷ ws) = do
  n ← number 32 w.now
  Some (n, 1)
word ws = None

-- a target: its handle, its ops and four numbers of a colour
abbrev pub target : Front (Option ColorAttachment)
target (k ∷ h ∷ o ∷ r ∷ g ∷ b ∷ a ∷ ws) = do
  handle ← number 64 h.now
  ops ← number 32 o.now
  red ← number 32 r.now
  green ← number 32 g.now
  blue ← number 32 b.now
  alpha ← number 32 a.now
  Some (
    Some (record {
      target = handle;
      ops = ops;
      clear_value = red ∷ green ∷ blue ∷ alpha ∷ [];
    }),
    7,
  )
target ws = None

-- an attachment: none, or a target
abbrev pub attachment : Front (Option ColorAttachment)
attachment [] = None
attachment (k ∷ ws) =
    if is (codes "none") k then Some (None, 1)
    else if is (codes "target") k then target (k ∷ ws) else None

-- a call with no operands
abbrev pub alone : SaidCall → List Word → Option SaidCall
alone c [] = Some c
alone c (w ∷ ws) = None

abbrev pub named : (List ℕ → SaidCall) → List Word → Option SaidCall
named c (n ∷ []) = Some (c n.now)
named c ws = None

abbrev pub render_pass : List Word → Option SaidCall
render_pass (l ∷ w ∷ h ∷ ws) = do
  of ← label l.now
  width ← number 32 w.now
  height ← number 32 h.now
  attachments ← all attachment ws
  Some (begin_render_pass of width height attachments)
render_pass ws = None

abbrev pub compute_pass : List Word → Option SaidCall
compute_pass (l ∷ []) = do
  of ← label l.now
  Some (begin_compute_pass of)
compute_pass ws = None

abbrev pub bind_group : List Word → Option SaidCall
bind_group (l ∷ i ∷ t ∷ ws) = do
  dynamic ← all dynamic_buffer ws
  index ← number 32 i.now
  table ← number 64 t.now
  Some (set_bind_group l.now index table (map (λ d. d.base) dynamic) (map (λ d. d.offset) dynamic))
bind_group ws = None

abbrev pub immediates : List Word → Option SaidCall
immediates (l ∷ o ∷ ws) = do
  offset ← number 32 o.now
  words ← all word ws
  Some (set_immediates l.now offset words)
immediates ws = None

abbrev pub vertex_buffer : List Word → Option SaidCall
vertex_buffer (i ∷ a ∷ s ∷ o ∷ p ∷ []) = do
  slot ← number 32 i.now
  address ← number 64 a.now
  size ← number 64 s.now
  offset ← number 64 o.now
  part ← number 64 p.now
  Some (set_vertex_buffer slot (record {
    buffer = record { address = address; size = size };
    offset = offset;
    size = part;
  }))
vertex_buffer ws = None

abbrev pub viewport : List Word → Option SaidCall
viewport (a ∷ b ∷ c ∷ d ∷ e ∷ f ∷ []) = do
  x ← number 32 a.now
  y ← number 32 b.now
  width ← number 32 c.now
  height ← number 32 d.now
  least ← number 32 e.now
  greatest ← number 32 f.now
  Some (set_viewport (x ∷ y ∷ width ∷ height ∷ least ∷ greatest ∷ []))
viewport ws = None

abbrev pub scissor_rect : List Word → Option SaidCall
scissor_rect (a ∷ b ∷ c ∷ d ∷ []) = do
  x ← number 32 a.now
  y ← number 32 b.now
  width ← number 32 c.now
  height ← number 32 d.now
  Some (set_scissor_rect (record { x = x; y = y; w = width; h = height }))
scissor_rect ws = None

abbrev pub drawn : List Word → Option SaidCall
drawn (a ∷ b ∷ c ∷ d ∷ []) = do
  first_vertex ← number 32 a.now
  vertex_count ← number 32 b.now
  first_instance ← number 32 c.now
  instance_count ← number 32 d.now
  Some (draw first_vertex vertex_count first_instance instance_count)
drawn ws = None

abbrev pub drawn_indirect : List Word → Option SaidCall
drawn_indirect (b ∷ o ∷ n ∷ []) = do
  buffer ← number 32 b.now
  offset ← number 64 o.now
  count ← number 32 n.now
  Some (draw_indirect buffer offset count)
drawn_indirect ws = None

abbrev pub dispatched : List Word → Option SaidCall
dispatched (a ∷ b ∷ c ∷ []) = do
  x ← number 32 a.now
  y ← number 32 b.now
  z ← number 32 c.now
  Some (dispatch_workgroups (x ∷ y ∷ z ∷ []))
dispatched ws = None

abbrev pub dispatched_indirect : List Word → Option SaidCall
dispatched_indirect (b ∷ o ∷ []) = do
  buffer ← number 32 b.now
  offset ← number 64 o.now
  Some (dispatch_workgroups_indirect buffer offset)
dispatched_indirect ws = None

-- the call that a verb and its operands say, if they say one
abbrev pub call_said : Word → List Word → Option SaidCall
call_said verb ws =
    if is (codes "begin_encoding") verb then alone begin_encoding ws
    else if is (codes "end_encoding") verb then alone end_encoding ws
    else if is (codes "discard_encoding") verb then alone discard_encoding ws
    else if is (codes "transition_buffers") verb
    then option_map (λ cs. transition_buffers cs) (all buffer_change ws)
    else if is (codes "transition_textures") verb
    then option_map (λ cs. transition_textures cs) (all texture_change ws)
    else if is (codes "begin_render_pass") verb then render_pass ws
    else if is (codes "end_render_pass") verb then alone end_render_pass ws
    else if is (codes "begin_compute_pass") verb then compute_pass ws
    else if is (codes "end_compute_pass") verb then alone end_compute_pass ws
    else if is (codes "set_bind_group") verb then bind_group ws
    else if is (codes "set_immediates") verb then immediates ws
    else if is (codes "set_render_pipeline") verb then named set_render_pipeline ws
    else if is (codes "set_compute_pipeline") verb then named set_compute_pipeline ws
    else if is (codes "set_vertex_buffer") verb then vertex_buffer ws
    else if is (codes "set_viewport") verb then viewport ws
    else if is (codes "set_scissor_rect") verb then scissor_rect ws
    else if is (codes "draw") verb then drawn ws
    else if is (codes "draw_indirect") verb then drawn_indirect ws
    else if is (codes "dispatch_workgroups") verb then dispatched ws
    else if is (codes "dispatch_workgroups_indirect") verb then dispatched_indirect ws
    else None
