-- How a job begins, or goes on, in a reclaim second.
use Rattle.fw_model_reclaim.proofs.Common.{PlugAt, ◌≡◌, ◌⊎◌, inl, inr, ℕ, Bool, true, false, Option, Some, None, is_some, refl, sym, ap, subst, ◌∙◌, arith, cond, restoring_job, Connection, PlugToPlug}
use Rattle.fw_model_reclaim.proofs.Common.{
  BroadcastOut,
  BroadcastIn,
  Flow,
  Slot,
  Free,
  Making,
  Established,
  Restoring,
  Gone,
  Directory,
  Job,
  Purpose,
  Make,
  Restore,
  Break,
  Stage,
  Begin,
  ReadInput,
  Made,
}
use Rattle.fw_model_reclaim.proofs.Common.{Ended, output_of, input_of, is_listen, restores, IsReached, begin_managed, begin_present}
use Rattle.fw_model_reclaim.proofs.Common.{begun, resumed, MatchesFor, CourseFor, IsOnCourse, is_ended, is_still}
use Rattle.fw_model_reclaim.proofs.Common.{is_leaving}
use Rattle.fw_cmp_jobs.specs.declared.job.Ending.TheVariants.{Late, Absent, Broken}
use Rattle.fw_cmp_jobs.specs.Nodes.{node_of}
use Rattle.fw_cmp_jobs.specs.Jobs.{without_node, absent_of, begin_making, begin_leaving, begin_breaking, begin, is_over, is_late, own_flow}

-- ---- a restoring

present : (device : ℕ) (o : Option ℕ) → is_some o ≡ true → elim o as (λ x. Option ℕ) [ None ↦ Some device | Some n ↦ None ] ≡ None
present device None e = absurd (grind arith)
present device (Some n) e = refl

neither : (x y : Option ℕ) → x ≡ None → y ≡ None → elim x as (λ z. Option ℕ) [ Some device ↦ Some device | None ↦ y ] ≡ None
neither None y e g = g
neither (Some device) y e g = e

plug_present : (d : Directory) (o : Option PlugAt) → ((p : PlugAt) → o ≡ Some p → is_some (node_of d p.device) ≡ true) → without_node d o ≡ None
plug_present d None at = refl
plug_present d (Some p) at = present p.device (node_of d p.device) (at p refl)

pub nobody_absent : (d : Directory) (conn : Connection) → IsReached d conn → absent_of d conn ≡ None
nobody_absent d conn r = neither (without_node d (output_of conn)) (without_node d (input_of conn)) (plug_present d (output_of conn) r.output) (plug_present d (input_of conn) r.input)

managed : (o : Option ℕ) (f : Flow) → is_some o ≡ true → IsOnCourse f (begin_managed o)
managed None f e = absurd (grind arith)
managed (Some n) f e = tt

begins_present : (d : Directory) (i : ℕ) (conn : Connection) (f : Flow) → IsReached d conn → IsOnCourse f (begin_present d (restoring_job i conn f))
begins_present d i (PlugToPlug out into) f r = managed d.manager f (r.manager refl)
begins_present d i (BroadcastOut out) f r = managed d.manager f (r.manager refl)
begins_present d i (BroadcastIn into) f r = refl

begins_restoring : (d : Directory) (i : ℕ) (conn : Connection) (f : Flow) → IsReached d conn → IsOnCourse f (begin_making d (restoring_job i conn f))
begins_restoring d i conn f r = subst (λ o. IsOnCourse f (elim o as (λ x. Stage) [ Some device ↦ Ended (Absent device) | None ↦ begin_present d (restoring_job i conn f) ]))
    (sym (nobody_absent d conn r)) (begins_present d i conn f r)

-- ---- a job that goes on

restores_is : (j : Job) (why : Purpose) → j.purpose ≡ why → restores j ≡ elim why [ Make ↦ false | Restore ↦ true | Break ↦ false ]
restores_is j why e = ap (λ w. elim w as (λ x. Bool) [ Make ↦ false | Restore ↦ true | Break ↦ false ]) e

-- a job that is not late goes on from its stage
pub not_late : (d : Directory) (slot : Slot) (j : Job) (s : Stage) → is_late slot j s ≡ false → resumed d slot j s ≡ begun d slot j s
not_late d slot j s e = ap (λ b. cond b (Ended Late) (begun d slot j s)) e

is_late_of : (d : Directory) (slot : Slot) (j : Job) (s : Stage) → is_late slot j s ≡ true → resumed d slot j s ≡ Ended Late
is_late_of d slot j s e = ap (λ b. cond b (Ended Late) (begun d slot j s)) e

-- only a restoring is late, and that only once its slot's own second is over
pub never_late : (slot : Slot) (j : Job) (s : Stage) → (restores j ≡ false) ⊎ (is_over slot ≡ false) → is_late slot j s ≡ false
never_late slot j s (inl e) = grind (arith, e)
never_late slot j s (inr e) = grind (arith, e)

ended_goes : (d : Directory) (slot : Slot) (j : Job) (s : Stage) → is_ended s ≡ true → is_ended (begun d slot j s) ≡ true
ended_goes d slot j (Ended e) h = refl
ended_goes d slot j _ h = absurd (grind arith)

leaving_goes : (d : Directory) (slot : Slot) (j : Job) (s : Stage) → is_leaving s ≡ true → is_leaving (begun d slot j s) ≡ true
leaving_goes d slot j Begin h = absurd (grind arith)
leaving_goes d slot j _ h = h

-- a break that begins
leaves : (conn : Connection) (f : Flow) → is_leaving (begin_leaving conn f) ≡ true
leaves (PlugToPlug out into) f = refl
leaves (BroadcastOut out) f = refl
leaves (BroadcastIn into) f = refl

breaking_leaves : (slot : Slot) → is_leaving (begin_breaking slot) ≡ true
breaking_leaves Free = refl
breaking_leaves (Making conn asked overhead) = refl
breaking_leaves (Established conn f) = leaves conn f
breaking_leaves (Restoring conn f over) = refl
breaking_leaves (Gone conn) = refl

-- a restoring whose slot's own second is over has come too late
over_resumed : (d : Directory) (j : Job) (conn : Connection) (f : Flow) (s : Stage) → restores j ≡ true → is_still s ≡ true → is_still (resumed d (Restoring conn f true) j s) ≡ true
over_resumed d j conn f Begin e h = subst (λ x. is_still x ≡ true) (sym (is_late_of d (Restoring conn f true) j Begin (grind (arith, e)))) refl
over_resumed d j conn f (Ended n) e h = subst (λ x. is_still x ≡ true) (sym (not_late d (Restoring conn f true) j (Ended n) (grind (arith, e)))) refl
over_resumed d j conn f _ e h = absurd (grind arith)

-- one in its own second goes on
own_begun : (d : Directory) (i : ℕ) (conn : Connection) (f : Flow) (s : Stage) → IsReached d conn → IsOnCourse f s → IsOnCourse f (begun d (Restoring conn f false) (restoring_job i conn f) s)
own_begun d i conn f Begin r on = begins_restoring d i conn f r
own_begun d i conn f _ r on = on

own_resumed : (d : Directory) (i : ℕ) (conn : Connection) (f : Flow) (s : Stage) → IsReached d conn → IsOnCourse f s → IsOnCourse f (resumed d (Restoring conn f false) (restoring_job i conn f) s)
own_resumed d i conn f s r on = subst (λ x. IsOnCourse f x) (sym
    (not_late d (Restoring conn f false) (restoring_job i conn f) s (never_late (Restoring conn f false) (restoring_job i conn f) s (inr refl)))) (own_begun d i conn f s r on)

restoring_resumed : (d : Directory) (j : Job) (s : Stage) (slot : Slot) → ((conn : Connection) (f : Flow) → slot ≡ Restoring conn f false → IsReached d conn) → MatchesFor Restore j slot
    → CourseFor Restore slot s → CourseFor Restore slot (resumed d slot j s)
restoring_resumed d j s slot reached m course = go m.0 m.1 m.2 m.3
  where
    go : (f : Flow) (over : Bool) → slot ≡ Restoring j.connection f over → j ≡ restoring_job j.slot j.connection f → CourseFor Restore slot (resumed d slot j s)
    go f true e is = subst (λ x. CourseFor Restore x (resumed d x j s)) (sym e) (over_resumed d j j.connection f s (ap (λ x. restores x) is) (subst (λ x. CourseFor Restore x s) e course))
    go f false e is = subst (λ x. CourseFor Restore x (resumed d x j s)) (sym e)
        (subst (λ x. IsOnCourse f (resumed d (Restoring j.connection f false) x s)) (sym is)
        (own_resumed d j.slot j.connection f s (reached j.connection f e) (subst (λ x. CourseFor Restore x s) e course)))

-- the job is on its course, or a break that begins
abbrev pub OnCourseOrBegins : Purpose → Slot → Stage → Type 0
OnCourseOrBegins why slot s = CourseFor why slot s ⊎ ((why ≡ Break) × (s ≡ Begin))

begin_break : (d : Directory) (slot : Slot) (j : Job) → j.purpose ≡ Break → begin d slot j ≡ begin_breaking slot
begin_break d slot j e = ap (λ w. elim w as (λ x. Stage) [ Make ↦ begin_making d j | Restore ↦ begin_making d j | Break ↦ begin_breaking slot ]) e

breaking_resumed : (d : Directory) (j : Job) (s : Stage) (slot : Slot) → j.purpose ≡ Break → (is_leaving s ≡ true) ⊎ (s ≡ Begin) → is_leaving (resumed d slot j s) ≡ true
breaking_resumed d j s slot e how = subst (λ x. is_leaving x ≡ true) (sym (not_late d slot j s (never_late slot j s (inl (restores_is j Break e))))) (go how)
  where
    go : (is_leaving s ≡ true) ⊎ (s ≡ Begin) → is_leaving (begun d slot j s) ≡ true
    go (inl h) = leaving_goes d slot j s h
    go (inr b) = subst (λ x. is_leaving (begun d slot j x) ≡ true) (sym b) (subst (λ x. is_leaving x ≡ true) (sym (begin_break d slot j e)) (breaking_leaves slot))

making_resumed : (d : Directory) (j : Job) (s : Stage) (slot : Slot) → j.purpose ≡ Make → is_ended s ≡ true → is_ended (resumed d slot j s) ≡ true
making_resumed d j s slot e h = subst (λ x. is_ended x ≡ true) (sym (not_late d slot j s (never_late slot j s (inl (restores_is j Make e))))) (ended_goes d slot j s h)

-- if a job goes on in a reclaim second, it is on its course
pub course_resumed : (d : Directory) (j : Job) (s : Stage) (slot : Slot) (why : Purpose) → j.purpose ≡ why → ((conn : Connection) (f : Flow) → slot ≡ Restoring conn f false → IsReached d conn)
    → MatchesFor why j slot → OnCourseOrBegins why slot s → CourseFor why slot (resumed d slot j s)
course_resumed d j s slot Make e reached m (inl course) = making_resumed d j s slot e course
course_resumed d j s slot Make e reached m (inr begins) = absurd (grind (arith, begins.0))
course_resumed d j s slot Restore e reached m (inl course) = restoring_resumed d j s slot reached m course
course_resumed d j s slot Restore e reached m (inr begins) = absurd (grind (arith, begins.0))
course_resumed d j s slot Break e reached m (inl course) = breaking_resumed d j s slot e (inl course)
course_resumed d j s slot Break e reached m (inr begins) = breaking_resumed d j s slot e (inr begins.1)

-- ---- no job is made by beginning

begin_unmade : (d : Directory) (slot : Slot) (j : Job) (f : Flow) → begin d slot j ≡ Made f → ⊥
begin_unmade d slot j f e = go j.purpose e
  where
    present_unmade : (b : Bool) (o : Option ℕ) → cond b (ReadInput (own_flow j)) (begin_managed o) ≡ Made f → ⊥
    present_unmade true o e = grind arith
    present_unmade false None e = grind arith
    present_unmade false (Some n) e = grind arith

    making_unmade : (o : Option ℕ) → elim o as (λ x. Stage) [ Some device ↦ Ended (Absent device) | None ↦ begin_present d j ] ≡ Made f → ⊥
    making_unmade None e = present_unmade (is_listen j.connection) d.manager e
    making_unmade (Some device) e = grind arith

    leaving_unmade : (conn : Connection) (g : Flow) → begin_leaving conn g ≡ Made f → ⊥
    leaving_unmade (PlugToPlug out into) g e = grind arith
    leaving_unmade (BroadcastOut out) g e = grind arith
    leaving_unmade (BroadcastIn into) g e = grind arith

    breaking_unmade : (x : Slot) → begin_breaking x ≡ Made f → ⊥
    breaking_unmade Free e = grind arith
    breaking_unmade (Making conn asked overhead) e = grind arith
    breaking_unmade (Established conn g) e = leaving_unmade conn g e
    breaking_unmade (Restoring conn g over) e = grind arith
    breaking_unmade (Gone conn) e = grind arith

    go : (why : Purpose) → elim why as (λ x. Stage) [ Make ↦ begin_making d j | Restore ↦ begin_making d j | Break ↦ begin_breaking slot ] ≡ Made f → ⊥
    go Make e = making_unmade (absent_of d j.connection) e
    go Restore e = making_unmade (absent_of d j.connection) e
    go Break e = breaking_unmade slot e

begun_made : (d : Directory) (slot : Slot) (j : Job) (s : Stage) (f : Flow) → begun d slot j s ≡ Made f → s ≡ Made f
begun_made d slot j Begin f e = absurd (begin_unmade d slot j f e)
begun_made d slot j _ f e = e

pub resumed_made : (d : Directory) (slot : Slot) (j : Job) (s : Stage) (f : Flow) → resumed d slot j s ≡ Made f → s ≡ Made f
resumed_made d slot j s f e = go (is_late slot j s) e
  where
    go : (b : Bool) → cond b (Ended Late) (begun d slot j s) ≡ Made f → s ≡ Made f
    go true e = absurd (grind arith)
    go false e = begun_made d slot j s f e

-- ---- a break goes on from its stage

leaving_begun : (d : Directory) (slot : Slot) (j : Job) (s : Stage) → is_leaving s ≡ true → begun d slot j s ≡ s
leaving_begun d slot j Begin h = absurd (grind arith)
leaving_begun d slot j _ h = refl

pub break_resumed : (d : Directory) (slot : Slot) (j : Job) (s : Stage) → j.purpose ≡ Break → is_leaving s ≡ true → resumed d slot j s ≡ s
break_resumed d slot j s e h = not_late d slot j s (never_late slot j s (inl (restores_is j Break e))) ∙ leaving_begun d slot j s h

-- a break of a connection that is gone ends at once
pub gone_resumed : (d : Directory) (slot : Slot) (j : Job) → j.purpose ≡ Break → slot ≡ Gone j.connection → resumed d slot j Begin ≡ Ended Broken
gone_resumed d slot j e gone = not_late d slot j Begin (never_late slot j Begin (inl (restores_is j Break e))) ∙ (begin_break d slot j e ∙ ap begin_breaking gone)
