-- Strides given to vertex slots, one after the other.
use Rattle.std.proofs.Common.{◌≡◌, ℕ, ◌+◌, true, cond, ◌||◌, ltb, eqb, Some, None, Option, sym, ap, ◌∙◌, ⊎_elim, arith}
use Rattle.std.proofs.lemmas.Bool.{cases_eq, cases_lt, ne_eqb, eq-eqb, lt-ltb, le-ltb}
use Rattle.device.specs.Devices.{VertexView}
use Rattle.passes.specs.Account.{Views, attached, strided, restrides, stride_or, only_at}

abbrev with_stride : VertexView → ℕ → VertexView
with_stride x s = record { address = x.address; size = x.size; stride = s }

-- a stride unlike a slot's own
pub strided_one : (k s : ℕ) (v : Views) → restrides (Some s) (v.views k) ≡ true → attached k (with_stride (v.views k) s) v ≡ strided (only_at k (Some s)) v
strided_one k s v e = λ j. record { views = λ i. view i j; touched = λ i. mark i j }
  where
    view : (i : ℕ) → cond (eqb i k) (with_stride (v.views k) s) (v.views i) ≡ with_stride (v.views i) (stride_or (cond (eqb i k) (Some s) None) (v.views i).stride)
    view i = ⊎_elim
        (λ q. ap (λ b. cond b (with_stride (v.views k) s) (v.views i)) (eq-eqb i k q) ∙ ap (λ n. with_stride (v.views n) s) (sym q)
        ∙ sym (ap (λ b. with_stride (v.views i) (stride_or (cond b (Some s) None) (v.views i).stride)) (eq-eqb i k q)))
        (λ q. ap (λ b. cond b (with_stride (v.views k) s) (v.views i)) (ne_eqb i k q)
        ∙ sym (ap (λ b. with_stride (v.views i) (stride_or (cond b (Some s) None) (v.views i).stride)) (ne_eqb i k q)))
        (cases_eq i k)

    mark : (i : ℕ) → cond (eqb i k) true (v.touched i) ≡ (restrides (cond (eqb i k) (Some s) None) (v.views i) || v.touched i)
    mark i = ⊎_elim
        (λ q. ap (λ b. cond b true (v.touched i)) (eq-eqb i k q)
        ∙ sym (ap (λ b. restrides (cond b (Some s) None) (v.views i) || v.touched i) (eq-eqb i k q) ∙ ap (λ b. b || v.touched i) (ap (λ n. restrides (Some s) (v.views n)) q ∙ e)))
        (λ q. ap (λ b. cond b true (v.touched i)) (ne_eqb i k q) ∙ sym (ap (λ b. restrides (cond b (Some s) None) (v.views i) || v.touched i) (ne_eqb i k q)))
        (cases_eq i k)

-- one slot more than g has
module _ (g h : ℕ → Option ℕ) (k : ℕ) (o : Option ℕ) (free : g k ≡ None) (here : h k ≡ o) (there : (i : ℕ) → (i ≡ k → ⊥) → h i ≡ g i) where
  pub strided_more : (v : Views) → strided (only_at k o) (strided g v) ≡ strided h v
  strided_more v = λ j. record { views = λ i. view i j; touched = λ i. mark i j }
    where
      given : Option ℕ → Option ℕ → VertexView → VertexView
      given a b x = with_stride x (stride_or a (stride_or b x.stride))

      view : (i : ℕ) → with_stride (v.views i) (stride_or (cond (eqb i k) o None) (stride_or (g i) (v.views i).stride)) ≡ with_stride (v.views i) (stride_or (h i) (v.views i).stride)
      view i = ⊎_elim
          (λ q. ap (λ b. with_stride (v.views i) (stride_or (cond b o None) (stride_or (g i) (v.views i).stride))) (eq-eqb i k q)
          ∙ ap (λ b. with_stride (v.views i) (stride_or o (stride_or b (v.views i).stride))) (ap g q ∙ free)
          ∙ ap (λ b. with_stride (v.views i) (stride_or b (v.views i).stride)) (sym (ap h q ∙ here)))
          (λ q. ap (λ b. with_stride (v.views i) (stride_or (cond b o None) (stride_or (g i) (v.views i).stride))) (ne_eqb i k q)
          ∙ ap (λ b. with_stride (v.views i) (stride_or b (v.views i).stride)) (sym (there i q)))
          (cases_eq i k)

      mark : (i : ℕ) → (restrides (cond (eqb i k) o None) (with_stride (v.views i) (stride_or (g i) (v.views i).stride)) || (restrides (g i) (v.views i) || v.touched i)) ≡ (restrides (h i) (v.views i) || v.touched i)
      mark i = ⊎_elim
          (λ q. ap (λ b. restrides (cond b o None) (with_stride (v.views i) (stride_or (g i) (v.views i).stride)) || (restrides (g i) (v.views i) || v.touched i)) (eq-eqb i k q)
          ∙ ap (λ b. restrides o (with_stride (v.views i) (stride_or b (v.views i).stride)) || (restrides b (v.views i) || v.touched i)) (ap g q ∙ free)
          ∙ ap (λ b. restrides b (v.views i) || v.touched i) (sym (ap h q ∙ here)))
          (λ q. ap (λ b. restrides (cond b o None) (with_stride (v.views i) (stride_or (g i) (v.views i).stride)) || (restrides (g i) (v.views i) || v.touched i)) (ne_eqb i k q)
          ∙ ap (λ b. restrides b (v.views i) || v.touched i) (sym (there i q)))
          (cases_eq i k)

-- the strides of the slots below n
abbrev pub below : ℕ → (ℕ → Option ℕ) → ℕ → Option ℕ
below n f i = cond (ltb i n) (f i) None

pub strided_next : (f : ℕ → Option ℕ) (n : ℕ) (o : Option ℕ) (v w x : Views) → o ≡ f n → w ≡ strided (below n f) v → x ≡ strided (only_at n o) w → x ≡ strided (below (n + 1) f) v
strided_next f n o v w x q p r =
    r ∙ ap (strided (only_at n o)) p
    ∙ strided_more (below n f) (below (n + 1) f) n o
    (ap (λ b. cond b (f n) None) (le-ltb n n (omega arith)))
    (ap (λ b. cond b (f n) None) (lt-ltb n (n + 1) (omega arith)) ∙ sym q)
    (λ i e. ⊎_elim
    (λ l. ap (λ b. cond b (f i) None) (lt-ltb i (n + 1) (omega arith)) ∙ sym (ap (λ b. cond b (f i) None) (lt-ltb i n l)))
    (λ l. ap (λ b. cond b (f i) None) (le-ltb i (n + 1) (omega arith)) ∙ sym (ap (λ b. cond b (f i) None) (le-ltb i n l)))
    (cases_lt i n)) v
