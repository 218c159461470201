-- What the answer to a call says, and how a call is shown to do what it should.
use Rattle.std.proofs.Common.{◌≡◌, ◌<◌, ◌≤◌, Bool, true, false, cond, leb, Some, None, Option, sym, refl, ap, ◌∙◌}
use Rattle.std.proofs.lemmas.Bool.{true≢false, false≢true, le-leb, lt-leb}
use Rattle.device.specs.Devices.{play}
use Rattle.device.specs.Meaning.{Recorded, sizes}
use Rattle.encoder.specs.Scenes.{Call, account_of, offers, next, records, asks, start_of, Answer, taken, refused, not_offered, is_taken, judged, verdict, Scene, Does}
use Rattle.command_list.specs.Refusals.{Why, fault}

-- an accepted call was offered, and every question was answered by yes
pub taken_asked : (s : Scene) (c : Call) → verdict s c ≡ taken → (offers s.stage c ≡ true) × (asks s.own c (account_of s.stage) ≡ None)
unfolding verdict
taken_asked s c e = by (offers s.stage c) (asks s.own c (account_of s.stage)) (leb (sizes (records s.own c (account_of s.stage))) (start_of c s.meaning).space) e
  where
    by : (o : Bool) (q : Option Why) (f : Bool) → cond o (judged q f) not_offered ≡ taken → (o ≡ true) × (q ≡ None)
    by true None f e = (refl, refl)
    by true (Some x) f e = absurd (false≢true (ap is_taken e))
    by false q f e = absurd (false≢true (ap is_taken e))

-- a call that is offered, of which every question says yes and which fits, is accepted
pub accepts : (s : Scene) (c : Call) → offers s.stage c ≡ true → asks s.own c (account_of s.stage) ≡ None
    → sizes (records s.own c (account_of s.stage)) ≤ (start_of c s.meaning).space → verdict s c ≡ taken
unfolding verdict
accepts s c offered clear room =
    let n = sizes (records s.own c (account_of s.stage)) in
    let m = (start_of c s.meaning).space in
    ap (λ o. cond o (judged (asks s.own c (account_of s.stage)) (leb n m)) not_offered) offered
    ∙ ap (λ q. judged q (leb n m)) clear
    ∙ ap (λ b. cond b taken (refused (fault 10 0))) (le-leb n m room)

pub refuses : (s : Scene) (c : Call) (f : Why) → offers s.stage c ≡ true → asks s.own c (account_of s.stage) ≡ Some f → verdict s c ≡ refused f
unfolding verdict
refuses s c f offered asked =
    let fit = leb (sizes (records s.own c (account_of s.stage))) (start_of c s.meaning).space in
    ap (λ o. cond o (judged (asks s.own c (account_of s.stage)) fit) not_offered) offered ∙ ap (λ q. judged q fit) asked

pub is_full : (s : Scene) (c : Call) → offers s.stage c ≡ true → asks s.own c (account_of s.stage) ≡ None
    → (start_of c s.meaning).space < sizes (records s.own c (account_of s.stage)) → verdict s c ≡ refused (fault 10 0)
unfolding verdict
is_full s c offered clear full =
    let n = sizes (records s.own c (account_of s.stage)) in
    let m = (start_of c s.meaning).space in
    ap (λ o. cond o (judged (asks s.own c (account_of s.stage)) (leb n m)) not_offered) offered
    ∙ ap (λ q. judged q (leb n m)) clear
    ∙ ap (λ b. cond b taken (refused (fault 10 0))) (lt-leb n m full)

pub nowhere : (s : Scene) (c : Call) → offers s.stage c ≡ false → verdict s c ≡ not_offered
unfolding verdict
nowhere s c away =
    let fit = leb (sizes (records s.own c (account_of s.stage))) (start_of c s.meaning).space in
    ap (λ o. cond o (judged (asks s.own c (account_of s.stage)) fit) not_offered) away

-- ---- what holds of an accepted call

pub taken_is : (a : Answer) → is_taken a ≡ true → a ≡ taken
taken_is taken e = refl
taken_is (refused f) e = absurd (false≢true e)
taken_is not_offered e = absurd (false≢true e)

-- what holds of an accepted call
pub record Took (s : Scene) (c : Call) (t : Scene) : Type 0 where
  pub offered : offers s.stage c ≡ true
  pub clear : asks s.own c (account_of s.stage) ≡ None
  pub stage : t.stage ≡ next c s.stage
  pub device : t.meaning.device ≡ play (records s.own c (account_of s.stage)) (start_of c s.meaning).device

pub took : (s : Scene) (c : Call) (a : Answer) (t : Scene) → Does s c a t → is_taken a ≡ true → Took s c t
took s c a t d e =
    let q = taken_asked s c (sym d.answer ∙ taken_is a e) in
    record { offered = q.0; clear = q.1; stage = d.stage e; device = (d.recorded e).device }

-- ---- a call does what it should

-- it is accepted: its stage is the next one, and the recorder has its records
pub does_taken : (s : Scene) (c : Call) (t : Scene) → offers s.stage c ≡ true → asks s.own c (account_of s.stage) ≡ None
    → sizes (records s.own c (account_of s.stage)) ≤ (start_of c s.meaning).space → t.own ≡ s.own → t.stage ≡ next c s.stage
    → Recorded (start_of c s.meaning) (records s.own c (account_of s.stage)) t.meaning → Does s c taken t
does_taken s c t offered clear room own stage recorded = record {
  answer = sym (accepts s c offered clear room);
  refused = λ e. absurd (true≢false e);
  own = own;
  stage = λ _. stage;
  recorded = λ _. recorded;
}

-- it is not accepted, and leaves all as it was
does_not : (s : Scene) (c : Call) (a : Answer) (t : Scene) → is_taken a ≡ false → verdict s c ≡ a → t ≡ s → Does s c a t
does_not s c a t no' v same = record {
  answer = sym v;
  refused = λ _. same;
  own = ap (λ (x : Scene). x.own) same;
  stage = λ e. absurd (true≢false (sym e ∙ no'));
  recorded = λ e. absurd (true≢false (sym e ∙ no'));
}

-- a question says no
pub does_asked : (s : Scene) (c : Call) (f : Why) (t : Scene) → offers s.stage c ≡ true → asks s.own c (account_of s.stage) ≡ Some f → t ≡ s → Does s c (refused f) t
does_asked s c f t offered asked same = does_not s c (refused f) t refl (refuses s c f offered asked) same

-- the space is too small
pub does_full : (s : Scene) (c : Call) (t : Scene) → offers s.stage c ≡ true → asks s.own c (account_of s.stage) ≡ None
    → (start_of c s.meaning).space < sizes (records s.own c (account_of s.stage)) → t ≡ s → Does s c (refused (fault 10 0)) t
does_full s c t offered clear full same = does_not s c (refused (fault 10 0)) t refl (is_full s c offered clear full) same

-- the stage has no such call
pub does_nothing : (s : Scene) (c : Call) (t : Scene) → offers s.stage c ≡ false → t ≡ s → Does s c not_offered t
does_nothing s c t away same = does_not s c not_offered t refl (nowhere s c away) same
