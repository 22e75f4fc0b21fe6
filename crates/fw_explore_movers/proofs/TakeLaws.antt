-- Words as they are taken: a test of what may be there, and room for one more.
use Rattle.std.proofs.Common.{ℕ, ◌≡◌, ◌<◌, ◌≤◌, List, Bool, true, false, IsTrue, IsFalse, Option, Some, None, IfSome, IfNone, is_some, length, inl, inr, subst}
use Rattle.std.proofs.lemmas.Bool.{cases_lt, false≢true, true≢false}
use Rattle.fw_explore_movers.specs.declared.mover.Mover.{Mover}
use Rattle.fw_explore_movers.specs.declared.mover.Line.{Line}
use Rattle.fw_explore_movers.specs.declared.mover.MoverKind.TheVariants.{Once}
use Rattle.fw_explore_movers.specs.Words.{Read, Reads, IsLine, IsFull, is_number, line_of_half_steps, may_stand, with_mover, with_line, line, following}

-- what is said of an option that is none, or some
pub none_then : {T : Type 0} {P : Type 0} (o : Option T) → is_some o ≡ false → IfNone o P → P
none_then None none p = p
none_then (Some x) none p = absurd (true≢false none)

pub some_then : {T : Type 0} {P : Type 0} (o : Option T) → is_some o ≡ true → IfSome o (λ _. P) → P
some_then None some p = absurd (false≢true some)
some_then (Some x) some p = p

room_following : (r : Read) → IsTrue r.follows → (IsFull r → ⊥) → length r.following < 64
room_following r follows room = elim (cases_lt (length r.following) 64) [ inl less ↦ less | inr more ↦ absurd (room (inr (follows, more))) ]

room_movers : (r : Read) → IsFalse r.follows → (IsFull r → ⊥) → length r.movers < 32
room_movers r first room = elim (cases_lt (length r.movers) 32) [ inl less ↦ less | inr more ↦ absurd (room (inl (first, more))) ]

pub take_after : (n : ℕ) (word : List ℕ) (r : Read) (l : Line) → IsFalse (is_number n word) → IsTrue r.follows → length word ≤ 256 → IsLine l.command word → IsTrue (may_stand r.follows l.command)
    → (IsFull r → ⊥) → l.text.items ≡ word → l.word ≡ n → Reads n word r (with_line r l)
take_after n word r l other follows short form stands room text at =
    following l other follows short form (subst (λ (b : Bool). may_stand b l.command ≡ true) follows stands) text at (room_following r follows room)

pub take_once : (n : ℕ) (word : List ℕ) (r : Read) (m : Mover) → IsFalse (is_number n word) → IsFalse r.follows → line_of_half_steps word ≡ None → length word ≤ 256 → IsLine m.command word
    → IsTrue (may_stand r.follows m.command) → (IsFull r → ⊥) → m.line.items ≡ word → m.kind ≡ Once → m.word ≡ n → Reads n word r (with_mover r m)
take_once n word r m other first none short form stands room text kind at =
    line m other first none short form (subst (λ (b : Bool). may_stand b m.command ≡ true) first stands) text kind at (room_movers r first room)
