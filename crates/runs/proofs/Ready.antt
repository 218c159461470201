-- What an accepted draw finds just before its own record, and that elements and device agree behind it.
use Rattle.std.proofs.Common.{◌≡◌, ℕ, ◌<◌, true, false, Some, None, Option, sym, refl, ap, ◌∙◌, subst, ⊎_elim, arith}
use Rattle.std.proofs.lemmas.Bool.{false≢true, cases_eq, cases_Bool, cond_both}
use Rattle.std.proofs.lemmas.Option.{none-some, same_Some}
use Rattle.command_list.specs.declared.command.Half.{Half}
use Rattle.command_list.specs.declared.command.Half.TheVariants.{Graphics, Compute}
use Rattle.device.specs.Devices.{Device, Roots, unset, update, wiped, other, step}
use Rattle.device.proofs.Steps.{wiped_signature}
use Rattle.device.proofs.Updates.{update_here, update_other}
use Rattle.device.proofs.Slots.{Rooted}
use Rattle.layouts.specs.declared.layout.PipelineLayout.{PipelineLayout}
use Rattle.layouts.specs.Layouts.{owner_in}
use Rattle.layouts.proofs.Wholeness.{whole}
use Rattle.bindings.specs.declared.constants.SpecialConstants.{SpecialConstants as Constants}
use Rattle.passes.specs.declared.element.RootElement.{RootElement}
use Rattle.passes.specs.declared.element.RootElement.TheVariants.{Empty, SpecialConstants}
use Rattle.passes.specs.Account.{Bound, Views, Pipeline, filled, special_slot, placed, is_constants, constants_at, current_special, own_slot, emptied, untouched, fits_owner, is_special_element, is_of_kind}
use Rattle.passes.specs.Calls.{DrawCall, draw, draw_indirect, dispatch, dispatch_indirect, own_constants, constants_by, by_own, prepared_by, wiped_slot, own_command}
use Rattle.passes.specs.Flush.{nothing, element_value, value_at, Holds}
use Rattle.encoder.specs.Scenes.{pass_draws}
use Rattle.passes.proofs.Fitting.{solid}
use Rattle.runs.proofs.Flushes.{Flushed}
use Rattle.passes.proofs.Questions.{Drawable}
use Rattle.layouts.specs.declared.info.Owner.{Owner}
use Rattle.layouts.specs.declared.info.Owner.TheVariants.{Table, Uniform, Immediates as ImmediatesOwner, Special}
use Rattle.passes.proofs.Fitting.{special_owner, owner_special, own_special, current_special_lem, may_be_special, constants_special, value_by, fit_solid, solid_known}
use Rattle.runs.proofs.Agreeing.{Agree, agree_slot, same_total}

-- ---- the special constants of a draw

agree_constants : (h : Half) (p : Option Pipeline) (b : Bound) (d : Device) (s : Constants) (m : Option ℕ) → current_special b.layout ≡ m → Agree h p b d → Agree h p (constants_at m s b) d
agree_constants h p b d s None e g = g
agree_constants h p b d s (Some i) e g =
    let w = current_special_lem b.layout i e in
    cond_both (is_constants s (b.elements i)) b (filled i (SpecialConstants s) b) (λ c. Agree h p c d)
    (λ _. g) (λ _. agree_slot h p d w.0 i (SpecialConstants s) b w.1 (special_owner w.0 i w.2).0 (λ _. refl) g)

pub agree_prepared : (h : Half) (p : Option Pipeline) (b : Bound) (d : Device) (o : Option Constants) → Agree h p b d → Agree h p (prepared_by o b) d
agree_prepared h p b d o g =
    cond_both (by_own o (own_slot b.layout)) b (constants_at (current_special b.layout) (constants_by o (own_slot b.layout)) b) (λ c. Agree h p c d)
    (λ _. g) (λ _. agree_constants h p b d (constants_by o (own_slot b.layout)) (current_special b.layout) refl g)

-- they leave the layout and every other slot, and the special slot has constants unless the call writes it itself
pub record Prepared (l : PipelineLayout) (o : Option Constants) (b c : Bound) : Type 0 where
  pub layout : c.layout ≡ b.layout
  pub fit : (k : ℕ) → fits_owner (owner_in l k) (b.elements k) ≡ true → fits_owner (owner_in l k) (c.elements k) ≡ true
  pub constants : (i : ℕ) → special_slot l ≡ Some i → (wiped_slot o (Some l) ≡ Some i → ⊥) → is_special_element (c.elements i) ≡ true

by_own_lem : (o : Option Constants) (w : Option ℕ) → by_own o w ≡ true → (o ≡ None) × ((j : ℕ) × (w ≡ Some j))
by_own_lem (Some s) w e = absurd (false≢true e)
by_own_lem None None e = absurd (false≢true e)
by_own_lem None (Some j) e = (refl, (j, refl))

prepared_constants : (l : PipelineLayout) (o : Option Constants) (s : Constants) (b : Bound) (m : Option ℕ) → special_slot l ≡ m → Prepared l o b (constants_at m s b)
prepared_constants l o s b None e = record { layout = refl; fit = λ k f. f; constants = λ i q n. absurd (none-some i (sym e ∙ q)) }
prepared_constants l o s b (Some j) e =
    cond_both (is_constants s (b.elements j)) b (filled j (SpecialConstants s) b) (λ c. Prepared l o b c)
    (λ y. record {
      layout = refl;
      fit = λ k f. f;
      constants = λ i q n. ap (λ k. is_special_element (b.elements k)) (same_Some i j (sym q ∙ e)) ∙ constants_special s (b.elements j) y;
    })
    (λ _. record {
      layout = refl;
      fit = λ k f. ⊎_elim
          (λ w. ap (λ z. fits_owner z (update b.elements j (SpecialConstants s) k)) (ap (owner_in l) w ∙ (special_owner l j e).1))
          (λ w. ap (fits_owner (owner_in l k)) (update_other b.elements j (SpecialConstants s) k w) ∙ f) (cases_eq k j);
      constants = λ i q n. ap is_special_element (update_here b.elements j (SpecialConstants s) i (same_Some i j (sym q ∙ e)));
    })

pub prepared_is : (l : PipelineLayout) (o : Option Constants) (b : Bound) → b.layout ≡ Some l → Prepared l o b (prepared_by o b)
prepared_is l o b is =
    cond_both (by_own o (own_slot b.layout)) b (constants_at (current_special b.layout) (constants_by o (own_slot b.layout)) b) (λ c. Prepared l o b c)
    (λ y.
    let w = by_own_lem o (own_slot b.layout) y in
    let own : own_slot (Some l) ≡ Some w.1.0 = ap own_slot (sym is) ∙ w.1.1 in
    record {
      layout = refl;
      fit = λ k f. f;
      constants = λ i q n.
          let same : w.1.0 ≡ i = same_Some w.1.0 i (sym (own_special (Some l) w.1.0 own) ∙ q) in
          absurd (n (ap (λ z. wiped_slot z (Some l)) w.0 ∙ own ∙ ap Some same));
    })
    (λ _. prepared_constants l o (constants_by o (own_slot b.layout)) b (current_special b.layout) (sym (ap current_special is)))

-- ---- just before its own record

pub record Ready (h : Half) (p : Option Pipeline) (b : Bound) (d e : Device) : Type 0 where
  pub pipeline : Pipeline
  pub layout : PipelineLayout
  pub set : p ≡ Some pipeline
  pub current : b.layout ≡ Some layout
  pub same : pipeline.signature ≡ layout.signature
  pub on_device : e.pipeline ≡ pipeline.handle
  pub handle : 0 < pipeline.handle
  pub signed : (e.halves h).signature ≡ pipeline.signature
  pub holds : (k : ℕ) → k < layout.total_root_elements → Holds (value_at h b k) ((e.halves h).slots k)
  pub fit : (k : ℕ) → k < layout.total_root_elements → fits_owner (owner_in layout k) (b.elements k) ≡ true
  pub special : (i : ℕ) → special_slot layout ≡ Some i → may_be_special (b.elements i) ≡ true
  pub rises : (k : ℕ) → b.touched k ≡ true → (d.halves h).writes k < (e.halves h).writes k
  pub rests : (k : ℕ) → b.touched k ≡ false → (e.halves h).writes k ≡ (d.halves h).writes k
  pub other : e.halves (other h) ≡ d.halves (other h)

pub ready_at : (h : Half) (p : Option Pipeline) (b : Bound) (v : Views) (d e : Device) → Agree h p b d → Drawable p b.layout b.elements → Flushed h b v d e → Ready h p b d e
ready_at h p b v d e g r f =
    let l = r.layout in
    let few = (whole l).few in
    let piped = g.piped r.pipeline r.set in
    let firm : (k : ℕ) → k < l.total_root_elements → b.touched k ≡ true → solid (value_at h b k) ≡ true = λ k lt on.
    fit_solid l h b k r.current lt (r.fit k lt) (λ s. (g.special l r.current k s).1 on) in
    record {
      pipeline = r.pipeline;
      layout = l;
      set = r.set;
      current = r.current;
      same = r.same;
      on_device = f.pipeline ∙ piped.0;
      handle = piped.2;
      signed = f.signature ∙ piped.1;
      holds = λ k lt. ⊎_elim
          (λ on. (f.put k (omega arith) on (firm k lt on)).holds)
          (λ off. subst (λ z. Holds (value_at h b k) z) (sym (f.kept k off).slots) (g.held l r.current k lt off).holds)
          (cases_Bool (b.touched k));
      fit = r.fit;
      special = λ i s. (g.special l r.current i s).0;
      rises = λ k on.
          let w = g.within k on in
          let lt : k < l.total_root_elements = subst (λ n. k < n) (same_total b.layout w.0 l w.1 r.current) w.2 in
          (f.put k (omega arith) on (firm k lt on)).rises;
      rests = λ k off. (f.kept k off).writes;
      other = f.other;
    }

-- the account as the draw wants it may be drawn with too
pub drawable_prepared : (o : Option Constants) (p : Option Pipeline) (b : Bound) → Drawable p b.layout b.elements → Drawable p (prepared_by o b).layout (prepared_by o b).elements
drawable_prepared o p b r =
    let w = prepared_is r.layout o b r.current in
    record { pipeline = r.pipeline; layout = r.layout; set = r.set; current = w.layout ∙ r.current; same = r.same; fit = λ k lt. w.fit k (r.fit k lt) }

-- every value of a layout's slot is known, but for the one that the call writes itself
pub known_prepared : (h : Half) (o : Option Constants) (p : Option Pipeline) (b : Bound) → Drawable p b.layout b.elements → (l : PipelineLayout) → b.layout ≡ Some l
    → (k : ℕ) → k < l.total_root_elements → (wiped_slot o (Some l) ≡ Some k → ⊥) → value_at h (prepared_by o b) k ≡ nothing → ⊥
known_prepared h o p b r l is =
    let w = prepared_is r.layout o b r.current in
    subst (λ (m : PipelineLayout). (k : ℕ) → k < m.total_root_elements → (wiped_slot o (Some m) ≡ Some k → ⊥) → value_at h (prepared_by o b) k ≡ nothing → ⊥)
    (same_Some r.layout l (sym r.current ∙ is))
    (λ k lt n. solid_known (value_at h (prepared_by o b) k) (fit_solid r.layout h (prepared_by o b) k (w.layout ∙ r.current) lt (w.fit k (r.fit k lt)) (λ s. w.constants k s n)))

-- and its element is of its owner's kind
pub kind_prepared : (h : Half) (o : Option Constants) (p : Option Pipeline) (b : Bound) → Drawable p b.layout b.elements → (l : PipelineLayout) → b.layout ≡ Some l
    → (k : ℕ) → k < l.total_root_elements → (wiped_slot o (Some l) ≡ Some k → ⊥) → is_of_kind (owner_in l k) ((prepared_by o b).elements k) ≡ true
kind_prepared h o p b r l is =
    let w = prepared_is r.layout o b r.current in
    subst (λ (m : PipelineLayout). (k : ℕ) → k < m.total_root_elements → (wiped_slot o (Some m) ≡ Some k → ⊥) → is_of_kind (owner_in m k) ((prepared_by o b).elements k) ≡ true)
    (same_Some r.layout l (sym r.current ∙ is))
    (λ k lt n. by (owner_in r.layout k) _ (λ e. w.constants k (owner_special r.layout k e) n) (w.fit k (r.fit k lt)))
  where
    by : (q : Option Owner) (x : RootElement) → (q ≡ Some Special → is_special_element x ≡ true) → fits_owner q x ≡ true → is_of_kind q x ≡ true
    by None x s f = f
    by (Some Table) x s f = f
    by (Some Uniform) x s f = f
    by (Some ImmediatesOwner) x s f = f
    by (Some Special) x s f = s refl

-- ---- behind its own record

-- a draw's own record unsets at most the slot that it writes itself
pub own_stepped : (c : DrawCall) (h : Half) (l : Option PipelineLayout) (d : Device) → pass_draws h c ≡ true
    → Rooted h (wiped (wiped_slot (own_constants c) l)) d (step (own_command c l) d)
own_stepped (draw first count instance instances) h l d e = record { here = refl; other = refl; pipeline = refl; vertices = refl; vertex_writes = refl }
own_stepped (draw_indirect buffer offset count) Graphics l d e = record { here = refl; other = refl; pipeline = refl; vertices = refl; vertex_writes = refl }
own_stepped (draw_indirect buffer offset count) Compute l d e = absurd (false≢true e)
own_stepped (dispatch x y z) h l d e = record { here = refl; other = refl; pipeline = refl; vertices = refl; vertex_writes = refl }
own_stepped (dispatch_indirect buffer offset) Graphics l d e = absurd (false≢true e)
own_stepped (dispatch_indirect buffer offset) Compute l d e = record { here = refl; other = refl; pipeline = refl; vertices = refl; vertex_writes = refl }

pub own_latest : (c : DrawCall) (l : Option PipelineLayout) (d : Device) → (step (own_command c l) d).latest ≡ Some (own_command c l)
own_latest (draw first count instance instances) l d = refl
own_latest (draw_indirect buffer offset count) l d = refl
own_latest (dispatch x y z) l d = refl
own_latest (dispatch_indirect buffer offset) l d = refl

-- nothing is asked of a slot that was wiped, and others hold what they held
wiped_holds : (h : Half) (w : Option ℕ) (b : Bound) (r : Roots) (k : ℕ) → Holds (value_at h b k) (r.slots k) → Holds (value_at h (untouched (emptied w b)) k) ((wiped w r).slots k)
wiped_holds h None b r k g = subst (λ v. Holds v (r.slots k)) (sym (value_by h b (untouched (emptied None b)) refl refl (b.elements k))) g
wiped_holds h (Some i) b r k g =
    let c = untouched (emptied (Some i) b) in
    ⊎_elim
    (λ e. subst (λ x. Holds (element_value h c x) (update r.slots i unset k)) (sym (update_here b.elements i Empty k e)) tt)
    (λ n.
    subst (λ x. Holds (element_value h c x) (update r.slots i unset k)) (sym (update_other b.elements i Empty k n))
    (subst (λ v. Holds v (update r.slots i unset k)) (sym (value_by h b c refl refl (b.elements k)))
    (subst (λ z. Holds (value_at h b k) z) (sym (update_other r.slots i unset k n)) g)))
    (cases_eq k i)

wiped_fit : (l : PipelineLayout) (w : Option ℕ) (f : ℕ → RootElement) (k : ℕ) → ((i : ℕ) → w ≡ Some i → special_slot l ≡ Some i)
    → fits_owner (owner_in l k) (f k) ≡ true → fits_owner (owner_in l k) (placed w Empty f k) ≡ true
wiped_fit l None f k s g = g
wiped_fit l (Some i) f k s g = ⊎_elim
    (λ e. ap (λ z. fits_owner z (update f i Empty k)) (ap (owner_in l) e ∙ (special_owner l i (s i refl)).1))
    (λ n. ap (fits_owner (owner_in l k)) (update_other f i Empty k n) ∙ g) (cases_eq k i)

wiped_special : (w : Option ℕ) (f : ℕ → RootElement) (k : ℕ) → may_be_special (f k) ≡ true → may_be_special (placed w Empty f k) ≡ true
wiped_special None f k g = g
wiped_special (Some i) f k g = ⊎_elim (λ e. ap may_be_special (update_here f i Empty k e)) (λ n. ap may_be_special (update_other f i Empty k n) ∙ g) (cases_eq k i)

-- the slot that a call wipes is the special one
pub wiped_is_special : (o : Option Constants) (l : PipelineLayout) (i : ℕ) → wiped_slot o (Some l) ≡ Some i → special_slot l ≡ Some i
wiped_is_special (Some s) l i e = absurd (none-some i e)
wiped_is_special None l i e = own_special (Some l) i e

pub agree_after : (h : Half) (p : Option Pipeline) (b : Bound) (d e f : Device) (w : Option ℕ) (r : Ready h p b d e)
    → ((i : ℕ) → w ≡ Some i → special_slot r.layout ≡ Some i) → Rooted h (wiped w) e f → Agree h p (untouched (emptied w b)) f
agree_after h p b d e f w r sp m = record {
  piped = λ x q.
      let same = same_Some r.pipeline x (sym r.set ∙ q) in (
        m.pipeline ∙ r.on_device ∙ ap (λ (z : Pipeline). z.handle) same,
        ap (λ (z : Roots). z.signature) m.here ∙ wiped_signature w (e.halves h) ∙ r.signed ∙ ap (λ (z : Pipeline). z.signature) same,
        subst (λ (z : Pipeline). 0 < z.handle) same r.handle,
      );
  within = λ k on. absurd (false≢true on);
  held = λ l is k lt off.
      let same : r.layout ≡ l = same_Some r.layout l (sym r.current ∙ is) in
      let k-in : k < r.layout.total_root_elements = subst (λ n. k < n) (same_total b.layout l r.layout is r.current) lt in
      record {
        pipeline = r.pipeline;
        set = r.set;
        same = r.same ∙ ap (λ (z : PipelineLayout). z.signature) same;
        holds = subst (λ (z : Roots). Holds (value_at h (untouched (emptied w b)) k) (z.slots k)) (sym m.here) (wiped_holds h w b (e.halves h) k (r.holds k k-in));
        fit = subst (λ z. fits_owner (owner_in z k) (placed w Empty b.elements k) ≡ true) same (wiped_fit r.layout w b.elements k sp (r.fit k k-in));
      };
  special = λ l is i s.
      let same : r.layout ≡ l = same_Some r.layout l (sym r.current ∙ is) in
      (wiped_special w b.elements i (r.special i (ap special_slot same ∙ s)), λ on. absurd (false≢true on));
}
