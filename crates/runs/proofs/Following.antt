-- The touched slots of an account are those that the calls since the last mark touched.
use Rattle.std.proofs.Common.{◌≡◌, ℕ, suc, ◌+◌, ◌/◌, ◌<◌, ◌≤◌, Bool, true, false, cond, ◌||◌, eqb, ltb, leb, ◌⊎◌, List, [], ◌∷◌, ◌++◌, length, Some, None, Option, sym, refl, ap, ◌∙◌, subst, inl, inr, ⊎_elim, arith}
use Rattle.std.proofs.lemmas.Bool.{true≢false, false≢true, ltb-true, lt-ltb, leb-true, le-leb, eqb-true, eq-eqb, cases_eq, and_parts, and_from, or_cases, or_left, or_right, cond_both}
use Rattle.device.proofs.Updates.{update_here, update_other}
use Rattle.layouts.specs.declared.info.BindGroupInfo.{BindGroupInfo}
use Rattle.layouts.specs.declared.info.ImmediatesInfo.{ImmediatesInfo}
use Rattle.layouts.specs.declared.layout.PipelineLayout.{PipelineLayout}
use Rattle.layouts.specs.Owners.{among}
use Rattle.layouts.specs.Layouts.{group_in}
use Rattle.bindings.specs.declared.constants.SpecialConstants.{SpecialConstants as Constants}
use Rattle.passes.specs.declared.element.RootElement.{RootElement}
use Rattle.passes.specs.declared.element.RootElement.TheVariants.{Immediates, SpecialConstants}
use Rattle.passes.specs.Account.{Bound, Account, filled, filled_from, renewed, is_current, switched, switch_touches, overwritten, with_immediates, group_elements, is_constants, constants_at, constants_touch, current_special, own_slot}
use Rattle.passes.specs.Calls.{SetCall, set_bind_group, set_immediates, set_render_pipeline, set_compute_pipeline, set_vertex_buffer, addresses, grouped, group_touches, supplied, immediates_touch, set_roots, set_touches, constants_by, by_own, prepared_by, draw_touches_by}
use Rattle.encoder.specs.Scenes.{Call, taken, is_taken}
use Rattle.runs.specs.Marks.{Moment, account_at, Some_touched, touches, Touched}
use Rattle.runs.proofs.Agreeing.{same_total}

-- ---- calls, and one more

-- the calls since' are those of since and one more, which touched tch
pub record Extends (f : Call → Account → ℕ → Bool) (since since' : List Moment) (tch : ℕ → Bool) : Type 0 where
  pub old : (k : ℕ) → Some_touched f since k → Some_touched f since' k
  pub new : (k : ℕ) → tch k ≡ true → Some_touched f since' k
  pub split : (k : ℕ) → Some_touched f since' k → Some_touched f since k ⊎ (tch k ≡ true)

module _ (f : Call → Account → ℕ → Bool) where
  some_left : (xs ys : List Moment) (k : ℕ) → Some_touched f xs k → Some_touched f (xs ++ ys) k
  some_left [] ys k t = absurd t
  some_left (x ∷ xs) ys k (inl t) = inl t
  some_left (x ∷ xs) ys k (inr t) = inr (some_left xs ys k t)

  some_right : (xs ys : List Moment) (k : ℕ) → Some_touched f ys k → Some_touched f (xs ++ ys) k
  some_right [] ys k t = t
  some_right (x ∷ xs) ys k t = inr (some_right xs ys k t)

  some_split : (xs ys : List Moment) (k : ℕ) → Some_touched f (xs ++ ys) k → Some_touched f xs k ⊎ Some_touched f ys k
  some_split [] ys k t = inr t
  some_split (x ∷ xs) ys k (inl t) = inl (inl t)
  some_split (x ∷ xs) ys k (inr t) = ⊎_elim (λ a. inl (inr a)) (λ b. inr b) (some_split xs ys k t)

  last_touch : (m : Moment) (k : ℕ) → Some_touched f (m ∷ []) k → (m.answer ≡ taken) × (f m.call (account_at m) k ≡ true)
  last_touch m k (inl t) = t
  last_touch m k (inr t) = absurd t

  pub extends_taken : (since : List Moment) (m : Moment) → m.answer ≡ taken → Extends f since (since ++ (m ∷ [])) (f m.call (account_at m))
  extends_taken since m e = record {
    old = λ k t. some_left since (m ∷ []) k t;
    new = λ k t. some_right since (m ∷ []) k (inl (e, t));
    split = λ k t. ⊎_elim (λ a. inl a) (λ b. inr (last_touch m k b).1) (some_split since (m ∷ []) k t);
  }

  -- a call that is not accepted touches nothing
  pub extends_refused : (since : List Moment) (m : Moment) → is_taken m.answer ≡ false → Extends f since (since ++ (m ∷ [])) (λ k. false)
  extends_refused since m e = record {
    old = λ k t. some_left since (m ∷ []) k t;
    new = λ k t. absurd (false≢true t);
    split = λ k t. ⊎_elim (λ a. inl a) (λ b. absurd (true≢false (sym (ap is_taken (last_touch m k b).0) ∙ e))) (some_split since (m ∷ []) k t);
  }

-- ---- root slots

pub record Follows (since : List Moment) (b : Bound) : Type 0 where
  pub sure : (k : ℕ) → b.touched k ≡ true → Touched since k
  pub all : (l : PipelineLayout) → b.layout ≡ Some l → (k : ℕ) → k < l.total_root_elements → Touched since k → b.touched k ≡ true

-- just behind a mark
pub follows_none : (b : Bound) → ((k : ℕ) → b.touched k ≡ false) → Follows [] b
follows_none b off = record { sure = λ k on. absurd (true≢false (sym on ∙ off k)); all = λ l is k lt t. absurd t }

-- of two accounts of one layout, the second has tch touched besides
pub record Touches (tch : ℕ → Bool) (b c : Bound) : Type 0 where
  pub layout : c.layout ≡ b.layout
  pub old : (k : ℕ) → b.touched k ≡ true → c.touched k ≡ true
  pub new : (k : ℕ) → tch k ≡ true → c.touched k ≡ true
  pub split : (k : ℕ) → c.touched k ≡ true → (tch k ≡ true) ⊎ (b.touched k ≡ true)

touches_none : (b : Bound) → Touches (λ k. false) b b
touches_none b = record { layout = refl; old = λ k on. on; new = λ k e. absurd (false≢true e); split = λ k on. inr on }

touches_filled : (i : ℕ) (x : RootElement) (f : ℕ → ℕ) (b : Bound) → Touches (λ k. eqb k i) b (filled i x (with_immediates f b))
touches_filled i x f b = record {
  layout = refl;
  old = λ k on. ⊎_elim (λ w. update_here b.touched i true k w) (λ w. update_other b.touched i true k w ∙ on) (cases_eq k i);
  new = λ k e. update_here b.touched i true k (eqb-true k i e);
  split = λ k on. ⊎_elim (λ w. inl (eq-eqb k i w)) (λ w. inr (sym (update_other b.touched i true k w) ∙ on)) (cases_eq k i);
}

touches_cond : (y : Bool) (t : ℕ → Bool) (b c : Bound) → Touches t b c → Touches (λ k. cond y false (t k)) b (cond y b c)
touches_cond true t b c g = touches_none b
touches_cond false t b c g = g

among_parts : (a b k : ℕ) → among a b k ≡ true → (a ≤ k) × (k < b)
among_parts a b k e = let p = and_parts (leb a k) (ltb k b) e in (leb-true a k p.0, ltb-true k b p.1)

among_from : (a b k : ℕ) → a ≤ k → k < b → among a b k ≡ true
among_from a b k p q = and_from (leb a k) (ltb k b) (le-leb a k p) (lt-ltb k b q)

touches_from : (es : List RootElement) (i : ℕ) (b : Bound) → Touches (λ k. among i (i + length es) k) b (filled_from i es b)
touches_from [] i b = record {
  layout = refl;
  old = λ k on. on;
  new = λ k e. let p = among_parts i (i + 0) k e in absurd (omega arith);
  split = λ k on. inr on;
}
touches_from (e ∷ es) i b =
    let one = touches_filled i e b.immediates b in
    let more = touches_from es (i + 1) (filled i e b) in
    record {
      layout = more.layout ∙ one.layout;
      old = λ k on. more.old k (one.old k on);
      new = λ k on.
          let p = among_parts i (i + suc (length es)) k on in
          ⊎_elim (λ w. more.old k (one.new k (eq-eqb k i w))) (λ w. more.new k (among_from (i + 1) (i + 1 + length es) k (omega arith) (omega arith))) (cases_eq k i);
      split = λ k on. ⊎_elim
          (λ t. let p = among_parts (i + 1) (i + 1 + length es) k t in inl (among_from i (i + suc (length es)) k (omega arith) (omega arith)))
          (λ t. ⊎_elim (λ w. let q = eqb-true k i w in inl (among_from i (i + suc (length es)) k (omega arith) (omega arith))) (λ w. inr w) (one.split k t))
          (more.split k on);
    }

touches_group : (o : Option BindGroupInfo) (t : ℕ) (xs : List ℕ) (b : Bound) → Touches (group_touches o t xs) b (grouped o t xs b)
touches_group None t xs b = touches_none b
touches_group (Some g) t xs b = touches_from (group_elements g.table t xs) g.base_root_index b

touches_supplied : (o : Option ImmediatesInfo) (at : ℕ) (ws : List ℕ) (b : Bound) → Touches (immediates_touch o) b (supplied o at ws b)
touches_supplied None at ws b = touches_none b
touches_supplied (Some i) at ws b = touches_filled i.root_index Immediates (overwritten at ws b.immediates) b

touches_constants : (m : Option ℕ) (s : Constants) (b : Bound) → Touches (constants_touch m s b) b (constants_at m s b)
touches_constants None s b = touches_none b
touches_constants (Some i) s b =
    touches_cond (is_constants s (b.elements i)) (λ k. eqb k i) b (filled i (SpecialConstants s) b) (touches_filled i (SpecialConstants s) b.immediates b)

touches_prepared : (o : Option Constants) (b : Bound) → Touches (draw_touches_by o b) b (prepared_by o b)
touches_prepared o b =
    touches_cond (by_own o (own_slot b.layout)) (constants_touch (current_special b.layout) (constants_by o (own_slot b.layout)) b) b
    (constants_at (current_special b.layout) (constants_by o (own_slot b.layout)) b)
    (touches_constants (current_special b.layout) (constants_by o (own_slot b.layout)) b)

module _ (since since' : List Moment) (b : Bound) (g : Follows since b) where
  pub follows_touches : (tch : ℕ → Bool) (c : Bound) → Touches tch b c → Extends touches since since' tch → Follows since' c
  follows_touches tch c t x = record {
    sure = λ k on. ⊎_elim (λ n. x.new k n) (λ o. x.old k (g.sure k o)) (t.split k on);
    all = λ l is k lt w. ⊎_elim (λ o. t.old k (g.all l (sym t.layout ∙ is) k lt o)) (λ n. t.new k n) (x.split k w);
  }

  -- where the new call touched nothing
  pub follows_quiet : Extends touches since since' (λ k. false) → Follows since' b
  follows_quiet x = follows_touches (λ k. false) b (touches_none b) x

  follows_switched : (l : PipelineLayout) (tch : ℕ → Bool) (c : Bound) → Touches tch b c → Extends touches since since' (λ k. tch k || switch_touches l b k) → Follows since' (switched l c)
  follows_switched l tch c t x =
      let same : is_current l.signature c.layout ≡ is_current l.signature b.layout = ap (is_current l.signature) t.layout in
      cond_both (is_current l.signature c.layout) c (renewed l c) (λ z. Follows since' z)
      (λ e.
      let off : (k : ℕ) → switch_touches l b k ≡ false = λ k. ap (λ y. cond y false (ltb k l.total_root_elements)) (sym same ∙ e) in
      record {
        sure = λ k on. ⊎_elim (λ n. x.new k (or_left (tch k) (switch_touches l b k) n)) (λ o. x.old k (g.sure k o)) (t.split k on);
        all = λ m is k lt w. ⊎_elim (λ o. t.old k (g.all m (sym t.layout ∙ is) k lt o))
            (λ n. ⊎_elim (λ y. t.new k y) (λ y. absurd (true≢false (sym y ∙ off k))) (or_cases (tch k) (switch_touches l b k) n)) (x.split k w);
      })
      (λ e.
      let on : (k : ℕ) → switch_touches l b k ≡ ltb k l.total_root_elements = λ k. ap (λ y. cond y false (ltb k l.total_root_elements)) (sym same ∙ e) in
      record {
        sure = λ k q. x.new k (or_right (tch k) (switch_touches l b k) (on k ∙ q));
        all = λ m is k lt w. lt-ltb k l.total_root_elements (subst (λ n. k < n) (same_total (Some l) m l is refl) lt);
      })

  pub follows_set : (c : SetCall) → Extends touches since since' (set_touches c b) → Follows since' (set_roots c b)
  follows_set (set_bind_group l i t bs os) x =
      follows_switched l (group_touches (group_in l i) t (addresses bs os)) (grouped (group_in l i) t (addresses bs os) b) (touches_group (group_in l i) t (addresses bs os) b) x
  follows_set (set_immediates l at ws) x =
      follows_switched l (immediates_touch l.immediates_info) (supplied l.immediates_info (at / 4) ws b) (touches_supplied l.immediates_info (at / 4) ws b) x
  follows_set (set_render_pipeline p) x = follows_switched p.layout (λ k. false) b (touches_none b) x
  follows_set (set_compute_pipeline p) x = follows_switched p.layout (λ k. false) b (touches_none b) x
  follows_set (set_vertex_buffer i y) x = follows_quiet x

  pub follows_prepared : (o : Option Constants) → Extends touches since since' (draw_touches_by o b) → Follows since' (prepared_by o b)
  follows_prepared o x = follows_touches (draw_touches_by o b) (prepared_by o b) (touches_prepared o b) x
