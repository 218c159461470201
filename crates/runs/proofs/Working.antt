-- The worked plots come true: each by computing, for layouts whose parts are written out.
use Rattle.std.proofs.Common.{◌≡◌, ◌≤◌, ℕ, Bool, true, false, cond, ◌&&◌, eqb, leb, List, [], ◌∷◌, Some, None, Option, sym, refl, ap, ◌∙◌, subst, ◌++◌, inl, negsuc, arith}
use Rattle.std.proofs.lemmas.Bool.{true≢false, false≢true, leb-true}
use Rattle.device.specs.Meaning.{sizes}
use Rattle.std.specs.Option.{option_eq}
use Rattle.std.specs.Cmp.Lexicographic.{pointwise}
use Rattle.layouts.specs.Equal.{same_special, same_immediates, same_group}
use Rattle.layouts.specs.Owners.{owner_of, owned, is_table, is_uniform, sound, once_below}
use Rattle.layouts.proofs.SameLayouts.{layout_decides}
use Rattle.layouts.specs.declared.layout.PipelineLayout.{PipelineLayout}
use Rattle.layouts.specs.declared.info.BindGroupInfo.{BindGroupInfo}
use Rattle.layouts.specs.declared.info.ImmediatesInfo.{ImmediatesInfo}
use Rattle.command_list.specs.Commands.{Command, BeginEvent, SetDescriptorHeaps}
use Rattle.std.specs.Str.{chars}
use Rattle.labels.specs.Unicode.{utf8s, utf16s}
use Rattle.labels.proofs.Texts.{encoded_once}
use Rattle.labels.specs.Utf8.{are_scalars, same_numbers}
use Rattle.layouts.specs.declared.info.PipelineLayoutSpecialConstants.{PipelineLayoutSpecialConstants}
use Rattle.passes.specs.declared.element.RootElement.TheVariants.{SpecialConstants}
use Rattle.passes.specs.Account.{unfit}
use Rattle.device.specs.Writes.{gathered}
use Rattle.encoder.specs.Scenes.{Call, Scene, is_taken, account_of, offers, asks, not_offered, records, next, start_of, judged, verdict, Does}
use Rattle.encoder.specs.Phases.{scene}
use Rattle.runs.specs.Worked.{beside, come_to, curves, labelled, spent, behind, behind_all, outcomes, plots, Come_true, empty, IsPlotted, WorkedPlots}
use Rattle.command_list.specs.Refusals.{Why, fault, unless}
use Rattle.command_list.specs.Bits.{bit}

-- the layout with its parts written out
abbrev pub groups_of : List (Option BindGroupInfo)
groups_of = Some (record { base_root_index = 0; table = true; uniforms = 1 }) ∷ None ∷ None ∷ None ∷ None ∷ None ∷ None ∷ None ∷ []

module _ (own : Bool) (k : PipelineLayout) (is : IsPlotted own k) where
  abbrev pub special : Option PipelineLayoutSpecialConstants
  special = Some (record { root_index = 2; own_signature = own })

  pub owner_same : (j : ℕ) → owner_of k.special_constants k.immediates_info k.bind_group_infos j ≡ owner_of special None groups_of j
  owner_same j = λ i. owner_of (is.special i) (is.immediates i) (is.groups i) j

  pub sound_is : sound 5 3 special None groups_of ≡ true
  unfolding once_below
  sound_is = refl

  abbrev pub written : PipelineLayout
  written = record {
    signature = 5;
    total_root_elements = 3;
    special_constants = special;
    immediates_info = None;
    bind_group_infos = groups_of;
    tables = k.tables;
    uniforms = k.uniforms;
    ok = sound_is;
    table_slots = λ j. k.table_slots j ∙ ap (owned is_table) (owner_same j);
    uniform_slots = λ j. k.uniform_slots j ∙ ap (owned is_uniform) (owner_same j);
  }

  pub is_written : k ≡ written
  is_written = (layout_decides k written).0 ((λ i. test own (is.signature i) (is.total i) (is.special i) (is.immediates i) (is.groups i)) ∙ same own)
    where
      test : Bool → ℕ → ℕ → Option PipelineLayoutSpecialConstants → Option ImmediatesInfo → List (Option BindGroupInfo) → Bool
      test o a b c d e =
          eqb a 5 && (eqb b 3 && (option_eq same_special c (Some (record { root_index = 2; own_signature = o })) && (option_eq same_immediates d None && pointwise (option_eq same_group) e groups_of)))

      same : (o : Bool) → test o 5 3 (Some (record { root_index = 2; own_signature = o })) None groups_of ≡ true
      same true = refl
      same false = refl

-- a call that is taken fits the space
fits_taken : (s : Scene) (c : Call) → is_taken (verdict s c) ≡ true → sizes (records s.own c (account_of s.stage)) ≤ (start_of c s.meaning).space
unfolding verdict
fits_taken s c e = leb-true _ _ (by (offers s.stage c) (asks s.own c (account_of s.stage)) _ e)
  where
    by : (o : Bool) (q : Option Why) (f : Bool) → is_taken (cond o (judged q f) not_offered) ≡ true → f ≡ true
    by true None true e = refl
    by true None false e = absurd (false≢true e)
    by true (Some w) f e = absurd (false≢true e)
    by false q f e = absurd (false≢true e)

-- what a call comes to is a step of a run
does_behind : (s : Scene) (c : Call) → Does s c (verdict s c) (behind s c)
does_behind s c = by (is_taken (verdict s c)) refl
  where
    rs : List Command
    rs = records s.own c (account_of s.stage)

    then' : Scene
    then' = scene (next c s.stage) s.own (spent rs (start_of c s.meaning))

    by : (b : Bool) → is_taken (verdict s c) ≡ b → Does s c (verdict s c) (behind s c)
    by true e = subst (λ t. Does s c (verdict s c) t) (sym (ap (λ b. cond b then' s) e)) (record {
      answer = refl;
      refused = λ q. absurd (true≢false (sym e ∙ q));
      own = refl;
      stage = λ _. refl;
      recorded = λ _. record {
        device = refl;
        least = omega arith;
        most = omega arith;
        made = refl;
        shown = refl;
        exact = λ bs q. omega (arith, fits_taken s c e);
      };
    })
    by false e = subst (λ t. Does s c (verdict s c) t) (sym (ap (λ b. cond b then' s) e)) (record {
      answer = refl;
      refused = λ _. refl;
      own = refl;
      stage = λ q. absurd (false≢true (sym e ∙ q));
      recorded = λ q. absurd (false≢true (sym e ∙ q));
    })

-- the label's two bytes are one scalar value
label_chars : chars (0xC3 ∷ 0xA9 ∷ []) ≡ (0xE9 ∷ [])
label_chars = sym (encoded_once (0xC3 ∷ 0xA9 ∷ []) (0xE9 ∷ []) ((inl (omega arith), tt), refl))

label_comes : outcomes (scene labelled.stage beside (empty labelled.space)) labelled.calls ≡ labelled.outcome
unfolding verdict
label_comes = λ i.
    let cs = label_chars i in
    let rs : List Command = BeginEvent (utf16s cs ++ 0 ∷ []) ∷ SetDescriptorHeaps true ∷ [] in
    come_to (judged (unless (are_scalars cs && same_numbers (utf8s cs) (0xC3 ∷ 0xA9 ∷ [])) (fault 2 0)) (leb (sizes rs) 1000)) rs ∷ []

abbrev Minus_one : PipelineLayout → Type 0
Minus_one k = (account_of (behind_all (scene (curves k).stage beside (empty (curves k).space)) (curves k).calls).stage).roots.elements 2 ≡ SpecialConstants (record { first_vertex_or_x = negsuc 0; first_instance_or_y = 0; unused_or_z = 0 })

minus_one_is : (k : PipelineLayout) (p : IsPlotted false k) → Minus_one (written false k p)
unfolding verdict unfit gathered bit
minus_one_is k p = refl

pub worked_plots : WorkedPlots
unfolding verdict unfit gathered bit
worked_plots = record {
  does = does_behind;
  plots_are = λ k own p q. subst (λ x. Come_true (plots x own)) (sym (is_written false k p)) (subst (λ x. Come_true (plots (written false k p) x)) (sym (is_written true own q)) (come_true k own p q));
  minus_one = λ k p. subst (λ x. Minus_one x) (sym (is_written false k p)) (minus_one_is k p);
  first_size = refl;
  again_size = refl;
  other_size = refl;
  label_bytes = refl;
}
  where
    come_true : (k own : PipelineLayout) (p : IsPlotted false k) (q : IsPlotted true own) → Come_true (plots (written false k p) (written true own q))
    come_true k own p q = (refl, (refl, (refl, (refl, (refl, (refl, (refl, (label_comes, tt))))))))
