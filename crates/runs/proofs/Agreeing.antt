-- What is bound at the root slots and what the device holds agree, whatever set calls are accepted.
use Rattle.std.proofs.Common.{◌≡◌, ℕ, ◌+◌, ◌<◌, ◌≤◌, Bool, true, false, cond, List, [], ◌∷◌, length, Some, None, Option, sym, refl, ap, ◌∙◌, subst, ⊎_elim, arith}
use Rattle.std.proofs.lemmas.Bool.{true≢false, false≢true, ltb-true, lt-ltb, cases_eq, cond_both}
use Rattle.std.proofs.lemmas.List.{length-map}
use Rattle.std.proofs.lemmas.Option.{none-some, same_Some}
use Rattle.command_list.specs.declared.command.Half.{Half}
use Rattle.device.specs.Devices.{Device, Roots, update}
use Rattle.device.proofs.Updates.{update_here, update_other}
use Rattle.layouts.specs.declared.info.BindGroupInfo.{BindGroupInfo}
use Rattle.layouts.specs.declared.info.ImmediatesInfo.{ImmediatesInfo}
use Rattle.layouts.specs.declared.info.Owner.TheVariants.{Table, Uniform, Immediates as ImmediatesOwner}
use Rattle.layouts.specs.declared.layout.PipelineLayout.{PipelineLayout}
use Rattle.layouts.specs.Layouts.{owner_in, group_in, Owns}
use Rattle.layouts.proofs.Wholeness.{whole}
use Rattle.passes.specs.declared.element.RootElement.{RootElement}
use Rattle.passes.specs.declared.element.RootElement.TheVariants.{Immediates, SpecialConstants, DynamicUniformBuffer}
use Rattle.passes.specs.Account.{Bound, Pipeline, opened, filled, filled_from, special_slot, placed, zeros, renewed, is_current, switched, overwritten, with_immediates, group_elements, current_special, fits_owner, is_special_element}
use Rattle.passes.specs.Calls.{grouped, supplied, asks_layout}
use Rattle.passes.specs.Flush.{element_value, value_at, Holds}
use Rattle.passes.proofs.Questions.{current_layout}
use Rattle.passes.proofs.Fitting.{owner_special, owner_immediates, not_special, group_owned, may_be_special, special_may, value_by, value_else}

-- a slot of the layout l that is not touched: the pipeline is of the layout's signature, and the device holds the slot's value, which fits its owner
pub record Held (h : Half) (p : Option Pipeline) (b : Bound) (d : Device) (l : PipelineLayout) (k : ℕ) : Type 0 where
  pub pipeline : Pipeline
  pub set : p ≡ Some pipeline
  pub same : pipeline.signature ≡ l.signature
  pub holds : Holds (value_at h b k) ((d.halves h).slots k)
  pub fit : fits_owner (owner_in l k) (b.elements k) ≡ true

pub record Agree (h : Half) (p : Option Pipeline) (b : Bound) (d : Device) : Type 0 where
  -- the pipeline and its signature are on the device
  pub piped : (x : Pipeline) → p ≡ Some x → (d.pipeline ≡ x.handle) × ((d.halves h).signature ≡ x.signature) × (0 < x.handle)
  -- only slots of the current layout are touched
  pub within : (k : ℕ) → b.touched k ≡ true → (l : PipelineLayout) × (b.layout ≡ Some l) × (k < l.total_root_elements)
  pub held : (l : PipelineLayout) → b.layout ≡ Some l → (k : ℕ) → k < l.total_root_elements → b.touched k ≡ false → Held h p b d l k
  -- the special slot has special constants, or nothing where it is not touched
  pub special : (l : PipelineLayout) → b.layout ≡ Some l → (i : ℕ) → special_slot l ≡ Some i
      → (may_be_special (b.elements i) ≡ true) × (b.touched i ≡ true → is_special_element (b.elements i) ≡ true)

abbrev total_of : Option PipelineLayout → ℕ
total_of None = 0
total_of (Some l) = l.total_root_elements

abbrev signature_of : Option PipelineLayout → ℕ
signature_of None = 0
signature_of (Some l) = l.signature

pub same_total : (o : Option PipelineLayout) (l m : PipelineLayout) → o ≡ Some l → o ≡ Some m → l.total_root_elements ≡ m.total_root_elements
same_total o l m p q = ap total_of (sym p ∙ q)

pub same_signature : (o : Option PipelineLayout) (l m : PipelineLayout) → o ≡ Some l → o ≡ Some m → l.signature ≡ m.signature
same_signature o l m p q = ap signature_of (sym p ∙ q)

pub agree_opened : (h : Half) (labelled : Bool) (d : Device) → Agree h None (opened h labelled).roots d
agree_opened h labelled d = record {
  piped = λ x e. absurd (none-some x e);
  within = λ k e. absurd (false≢true e);
  held = λ l e k lt f. absurd (none-some l e);
  special = λ l e i s. absurd (none-some l e);
}

-- a device that is the same for the half
pub agree_device : (h : Half) (p : Option Pipeline) (b : Bound) (d e : Device) → e.halves h ≡ d.halves h → e.pipeline ≡ d.pipeline → Agree h p b d → Agree h p b e
agree_device h p b d e same pipe g = record {
  piped = λ x q. let y = g.piped x q in (pipe ∙ y.0, ap (λ (r : Roots). r.signature) same ∙ y.1, y.2);
  within = g.within;
  held = λ l q k lt f.
      let y = g.held l q k lt f in
      record { pipeline = y.pipeline; set = y.set; same = y.same; holds = subst (λ (r : Roots). Holds (value_at h b k) (r.slots k)) (sym same) y.holds; fit = y.fit };
  special = g.special;
}

-- a switch touches every slot of its layout, so that nothing need be held
pub agree_renewed : (h : Half) (p : Option Pipeline) (l : PipelineLayout) (b : Bound) (d : Device)
    → ((x : Pipeline) → p ≡ Some x → (d.pipeline ≡ x.handle) × ((d.halves h).signature ≡ x.signature) × (0 < x.handle)) → Agree h p (renewed l b) d
agree_renewed h p l b d piped = record {
  piped = piped;
  within = λ k e. (l, refl, ltb-true k l.total_root_elements e);
  held = λ m e k lt f.
      let in-l : k < l.total_root_elements = subst (λ n. k < n) (sym (ap total_of e)) lt in
      absurd (true≢false (sym (lt-ltb k l.total_root_elements in-l) ∙ f));
  special = λ m e i s.
      let slot : special_slot l ≡ Some i = ap current_special e ∙ s in
      let is : placed (special_slot l) (SpecialConstants zeros) b.elements i ≡ SpecialConstants zeros =
      ap (λ o. placed o (SpecialConstants zeros) b.elements i) slot ∙ update_here b.elements i (SpecialConstants zeros) i refl in
      (ap may_be_special is, λ _. ap is_special_element is);
}

module _ (h : Half) (p : Option Pipeline) (d : Device) (l : PipelineLayout) where
  -- a slot of the current layout is filled, perhaps with other words for the immediates
  pub agree_filled : (k : ℕ) (x : RootElement) (f : ℕ → ℕ) (b : Bound) → b.layout ≡ Some l → k < l.total_root_elements
      → (special_slot l ≡ Some k → is_special_element x ≡ true)
      → ((q : ℕ) → q < l.total_root_elements → (q ≡ k → ⊥) → Held h p b d l q → element_value h (with_immediates f b) (b.elements q) ≡ element_value h b (b.elements q))
      → Agree h p b d → Agree h p (filled k x (with_immediates f b)) d
  agree_filled k x f b is lt sp val g = record {
    piped = g.piped;
    within = λ q e. ⊎_elim (λ w. (l, is, subst (λ n. n < l.total_root_elements) (sym w) lt)) (λ w. g.within q (sym (update_other b.touched k true q w) ∙ e)) (cases_eq q k);
    held = λ m e q q-in off.
        let n : q ≡ k → ⊥ = λ w. true≢false (sym (update_here b.touched k true q w) ∙ off) in
        let was : b.touched q ≡ false = sym (update_other b.touched k true q n) ∙ off in
        let q-l : q < l.total_root_elements = subst (λ z. q < z) (same_total b.layout m l e is) q-in in
        let old = g.held m e q q-in was in
        let el : update b.elements k x q ≡ b.elements q = update_other b.elements k x q n in
        let value : value_at h (filled k x (with_immediates f b)) q ≡ value_at h b q =
        value_by h (with_immediates f b) (filled k x (with_immediates f b)) refl refl (update b.elements k x q)
        ∙ ap (element_value h (with_immediates f b)) el ∙ val q q-l n (g.held l is q q-l was) in
        record {
          pipeline = old.pipeline;
          set = old.set;
          same = old.same;
          holds = subst (λ v. Holds v ((d.halves h).slots q)) (sym value) old.holds;
          fit = ap (fits_owner (owner_in m q)) el ∙ old.fit;
        };
    special = λ m e i s.
        let sl : special_slot l ≡ Some i = ap current_special (sym is ∙ e) ∙ s in
        let old = g.special m e i s in
        ⊎_elim
        (λ w.
        let el : update b.elements k x i ≡ x = update_here b.elements k x i w in
        let y : is_special_element x ≡ true = sp (sl ∙ ap Some w) in
        (ap may_be_special el ∙ special_may x y, λ _. ap is_special_element el ∙ y))
        (λ w.
        let el : update b.elements k x i ≡ b.elements i = update_other b.elements k x i w in
        (ap may_be_special el ∙ old.0, λ t. ap is_special_element el ∙ old.1 (sym (update_other b.touched k true i w) ∙ t)))
        (cases_eq i k);
  }

  -- the words as they were
  pub agree_slot : (k : ℕ) (x : RootElement) (b : Bound) → b.layout ≡ Some l → k < l.total_root_elements → (special_slot l ≡ Some k → is_special_element x ≡ true)
      → Agree h p b d → Agree h p (filled k x b) d
  agree_slot k x b is lt sp g = agree_filled k x b.immediates b is lt sp (λ q _ _ _. refl) g

  -- slots one behind the other, none of them the special one
  agree_slots : (es : List RootElement) (k : ℕ) (b : Bound) → b.layout ≡ Some l
      → ((j : ℕ) → k ≤ j → j < k + length es → (j < l.total_root_elements) × (special_slot l ≡ Some j → ⊥)) → Agree h p b d → Agree h p (filled_from k es b) d
  agree_slots [] k b is all g = g
  agree_slots (e ∷ es) k b is all g =
      let at = all k (omega arith) (omega arith) in
      agree_slots es (k + 1) (filled k e b) is (λ j x y. all j (omega arith) (omega arith)) (agree_slot k e b is at.0 (λ s. absurd (at.1 s)) g)

-- ---- groups

elements_length : (b : Bool) (t : ℕ) (xs : List ℕ) → length (group_elements b t xs) ≡ cond b 1 0 + length xs
elements_length true t xs = let e = length-map xs DynamicUniformBuffer in omega arith
elements_length false t xs = let e = length-map xs DynamicUniformBuffer in omega arith

-- the slots of a group are the layout's, and not the special one
pub group_slots : (l : PipelineLayout) (i : ℕ) (g : BindGroupInfo) (t : ℕ) (xs : List ℕ) → group_in l i ≡ Some g → g.uniforms ≡ length xs
    → (j : ℕ) → g.base_root_index ≤ j → j < g.base_root_index + length (group_elements g.table t xs) → (j < l.total_root_elements) × (special_slot l ≡ Some j → ⊥)
group_slots l i g t xs is n j low high =
    let len = elements_length g.table t xs in
    ⊎_elim
    (λ (o : Owns l Table j). (o.0, not_special l Table j (λ e. let z : ◌≡◌ {A = ℕ} 0 1 = cc in omega arith) o.1))
    (λ (o : Owns l Uniform j). (o.0, not_special l Uniform j (λ e. let z : ◌≡◌ {A = ℕ} 0 1 = cc in omega arith) o.1))
    (group_owned l i g is j low (omega arith))

filled_layout : (es : List RootElement) (k : ℕ) (b : Bound) → (filled_from k es b).layout ≡ b.layout
filled_layout [] k b = refl
filled_layout (e ∷ es) k b = filled_layout es (k + 1) (filled k e b)

pub grouped_layout : (o : Option BindGroupInfo) (t : ℕ) (xs : List ℕ) (b : Bound) → (grouped o t xs b).layout ≡ b.layout
grouped_layout None t xs b = refl
grouped_layout (Some g) t xs b = filled_layout (group_elements g.table t xs) g.base_root_index b

pub supplied_layout : (o : Option ImmediatesInfo) (at : ℕ) (ws : List ℕ) (b : Bound) → (supplied o at ws b).layout ≡ b.layout
supplied_layout None at ws b = refl
supplied_layout (Some i) at ws b = refl

module _ (h : Half) (p : Option Pipeline) (d : Device) (l : PipelineLayout) (b : Bound) (g : Agree h p b d) where
  -- the current layout is kept, or another becomes current
  pub agree_switched : (c : Bound) → c.layout ≡ b.layout → asks_layout l b.layout ≡ None → (b.layout ≡ Some l → Agree h p c d) → Agree h p (switched l c) d
  agree_switched c same q f =
      cond_both (is_current l.signature c.layout) c (renewed l c) (λ x. Agree h p x d)
      (λ e. f (current_layout l b.layout q (sym (ap (is_current l.signature) same) ∙ e)))
      (λ e. agree_renewed h p l c d g.piped)

  pub agree_group : (i t : ℕ) (xs : List ℕ) (o : BindGroupInfo) → group_in l i ≡ Some o → o.uniforms ≡ length xs → asks_layout l b.layout ≡ None
      → Agree h p (switched l (grouped (group_in l i) t xs b)) d
  agree_group i t xs o is n q =
      agree_switched (grouped (group_in l i) t xs b) (grouped_layout (group_in l i) t xs b) q
      (λ now. subst (λ z. Agree h p (grouped z t xs b) d) (sym is)
      (agree_slots h p d l (group_elements o.table t xs) o.base_root_index b now (group_slots l i o t xs is n) g))

  pub agree_immediates : (at : ℕ) (ws : List ℕ) (i : ImmediatesInfo) → l.immediates_info ≡ Some i → asks_layout l b.layout ≡ None
      → Agree h p (switched l (supplied l.immediates_info at ws b)) d
  agree_immediates at ws i is q =
      let k = i.root_index in
      let owns = ((whole l).immediates i is).0 in
      let f = overwritten at ws b.immediates in
      agree_switched (supplied l.immediates_info at ws b) (supplied_layout l.immediates_info at ws b) q
      (λ now. subst (λ z. Agree h p (supplied z at ws b) d) (sym is)
      (agree_filled h p d l k Immediates f b now owns.0
      (λ s. absurd (not_special l ImmediatesOwner k (λ e. let z : ◌≡◌ {A = ℕ} 0 1 = cc in omega arith) owns.1 s))
      (λ j j-in n held.
      value_else l h b (with_immediates f b) j (b.elements j) j-in
      (λ o. let w = owner_immediates l j o in n (sym w.2 ∙ ap (λ (x : ImmediatesInfo). x.root_index) (same_Some w.0 i (sym w.1 ∙ is))))
      held.fit (λ o. (g.special l now j (owner_special l j o)).0))
      g))
