-- What words name may be explored: few movers, commands that lines spell, in the order of the words.
use Rattle.fw_explore_meaning.proofs.Common.{ℕ, ◌≡◌, ◌+◌, ◌<◌, ◌≤◌, List, [], ◌∷◌, ◌++◌, true, false, IsFalse, length}
use Rattle.fw_explore_meaning.proofs.Common.{get_or, inl, inr, refl, sym, ap, subst, ◌∙◌, arith, All, AllPairs, Explored, Mover}
use Rattle.fw_explore_meaning.proofs.Common.{Line, IsMover}
use Rattle.std.proofs.lemmas.Bool.{true≢false}
use Rattle.std.proofs.lemmas.List.{length_push}
use Rattle.std.proofs.lemmas.List.Quantifiers.{all_pairs_push}
use Rattle.std.proofs.lemmas.List.Elements.{All-nil, All-push, All-weaker}
use Rattle.std.proofs.lemmas.Option.{get_or_from_slice_get, slice_get_within}
use Rattle.fw_bus.specs.Buses.{IsCommand}
use Rattle.fw_explore_movers.specs.Explored.{AreInOrder}
use Rattle.fw_explore_movers.specs.Words.{Read, Reads, ReadsAll, nothing_read, with_mover, with_line, number, goes_on, half_steps, line, following, all_read, reads, IsExploredBy}
use Rattle.fw_explore_meaning.specs.Steps.{IsExplored}

-- what holds of the words so far, of which the next has the number n
record IsSoFar (n : ℕ) (r : Read) : Type 0 where
  pub few : length r.movers ≤ 32
  pub movers : All (λ (m : Mover). IsCommand m.command) r.movers
  pub commands : All (λ (l : Line). IsCommand l.command) r.following
  pub below : All (λ (m : Mover). m.word < n) r.movers
  pub lines_below : All (λ (l : Line). l.word < n) r.following
  pub in_order : AllPairs (λ (m k : Mover). m.word < k.word) r.movers
  pub lines_in_order : AllPairs (λ (l k : Line). l.word < k.word) r.following
  pub apart : All (λ (m : Mover). All (λ (l : Line). m.word < l.word) r.following) r.movers
  pub early : IsFalse r.follows → r.following ≡ []

at_first : IsSoFar 1 nothing_read
at_first = record {
  few = omega arith;
  movers = All-nil (λ (m : Mover). IsCommand m.command);
  commands = All-nil (λ (l : Line). IsCommand l.command);
  below = All-nil (λ (m : Mover). m.word < 1);
  lines_below = All-nil (λ (l : Line). l.word < 1);
  in_order = λ i j d less h. absurd (omega (arith, h));
  lines_in_order = λ i j d less h. absurd (omega (arith, h));
  apart = All-nil (λ (m : Mover). All (λ (l : Line). m.word < l.word) []);
  early = λ f. refl;
}

later : (n : ℕ) (r : Read) → IsSoFar n r → All (λ (m : Mover). m.word < n + 1) r.movers
later n r s = All-weaker (λ (m : Mover). m.word < n) (λ (m : Mover). m.word < n + 1) (λ m h. omega (arith, h)) r.movers s.below

lines_later : (n : ℕ) (r : Read) → IsSoFar n r → All (λ (l : Line). l.word < n + 1) r.following
lines_later n r s = All-weaker (λ (l : Line). l.word < n) (λ (l : Line). l.word < n + 1) (λ l h. omega (arith, h)) r.following s.lines_below

-- a mover more
mover_more : (n : ℕ) (r : Read) (m : Mover) → IsSoFar n r → IsFalse r.follows → IsCommand m.command → m.word ≡ n → length r.movers < 32 → IsSoFar (n + 1) (with_mover r m)
mover_more n r m s first command word room = record {
  few = omega (arith, room, length_push r.movers m);
  movers = All-push (λ (o : Mover). IsCommand o.command) r.movers m s.movers command;
  commands = s.commands;
  below = All-push (λ (o : Mover). o.word < n + 1) r.movers m (later n r s) (omega (arith, word));
  lines_below = lines_later n r s;
  in_order = all_pairs_push (λ (o k : Mover). o.word < k.word) r.movers m s.in_order (All-weaker (λ (o : Mover). o.word < n) (λ (o : Mover). o.word < m.word) (λ o h. omega (arith, h, word)) r.movers
      s.below);
  lines_in_order = s.lines_in_order;
  apart = All-push (λ (o : Mover). All (λ (l : Line). o.word < l.word) r.following) r.movers m s.apart
      (subst (All (λ (l : Line). m.word < l.word)) (sym (s.early first)) (All-nil (λ (l : Line). m.word < l.word)));
  early = s.early;
}

-- a line more
line_more : (n : ℕ) (r : Read) (l : Line) → IsSoFar n r → r.follows ≡ true → IsCommand l.command → l.word ≡ n → IsSoFar (n + 1) (with_line r l)
line_more n r l s follows command word = record {
  few = s.few;
  movers = s.movers;
  commands = All-push (λ (k : Line). IsCommand k.command) r.following l s.commands command;
  below = later n r s;
  lines_below = All-push (λ (k : Line). k.word < n + 1) r.following l (lines_later n r s) (omega (arith, word));
  in_order = s.in_order;
  lines_in_order = all_pairs_push (λ (o k : Line). o.word < k.word) r.following l s.lines_in_order
      (All-weaker (λ (k : Line). k.word < n) (λ (k : Line). k.word < l.word) (λ k h. omega (arith, h, word))
      r.following s.lines_below);
  apart = λ k d less. All-push (λ (o : Line). (get_or r.movers k d).word < o.word) r.following l (s.apart k d less) (let h = s.below k d less in omega (arith, h, word));
  early = λ f. absurd (true≢false (sym follows ∙ f));
}

one_more : (n : ℕ) (word : List ℕ) (r s : Read) → Reads n word r s → IsSoFar n r → IsSoFar (n + 1) s
one_more n word r s (number is value) so = record {
  few = so.few;
  movers = so.movers;
  commands = so.commands;
  below = later n r so;
  lines_below = lines_later n r so;
  in_order = so.in_order;
  lines_in_order = so.lines_in_order;
  apart = so.apart;
  early = so.early;
}
one_more n word r s (goes_on is first then) so = record {
  few = so.few;
  movers = so.movers;
  commands = so.commands;
  below = later n r so;
  lines_below = lines_later n r so;
  in_order = so.in_order;
  lines_in_order = so.lines_in_order;
  apart = so.apart;
  early = λ f. absurd (true≢false f);
}
one_more n word r s (half_steps {line = l} m is first then steps form text kind at room once) so = mover_more n r m so first (l, form) at room
one_more n word r s (line m is first steps short form may text kind at room) so = mover_more n r m so first (word, form.form) at room
one_more n word r s (following l is follows short form may text at room) so = line_more n r l so follows (word, form.form) at

all_more : (n : ℕ) (words : List (List ℕ)) (r s : Read) → ReadsAll n words r s → IsSoFar n r → (m : ℕ) × IsSoFar m s
all_more n words r s all_read so = (n, so)
all_more n words r t (reads {word = w} {words = ws} {s = s} one rest) so = all_more (n + 1) ws s t rest (one_more n w r s one so)

-- a mover at a place is one of the movers
mover_command : (x : Explored) → All (λ (m : Mover). IsCommand m.command) x.movers.items → (p : ℕ) (m : Mover) → IsMover x p m → IsCommand m.command
mover_command x all p m at = subst (λ (o : Mover). IsCommand o.command) (get_or_from_slice_get x.movers.items p m m at) (all p m (slice_get_within x.movers.items p m at))

pub explored_by : (words : List (List ℕ)) (x : Explored) → IsExploredBy words x → IsExplored x × AreInOrder x
explored_by words x e =
    let so = (all_more 1 words nothing_read e.read e.reads_all at_first).1 in
    let movers = subst (All (λ (m : Mover). IsCommand m.command)) (sym e.movers) so.movers in (
      record {
        few = subst (λ ms. length ms ≤ 32) (sym e.movers) so.few;
        commands = mover_command x movers;
        following = subst (All (λ (l : Line). IsCommand l.command)) (sym e.following) so.commands;
      },
      record {
        movers = subst (AllPairs (λ (m k : Mover). m.word < k.word)) (sym e.movers) so.in_order;
        lines = subst (AllPairs (λ (l k : Line). l.word < k.word)) (sym e.following) so.lines_in_order;
        apart = subst (λ ms. All (λ (m : Mover). All (λ (l : Line). m.word < l.word) x.following.items) ms) (sym e.movers)
            (subst (λ ls. All (λ (m : Mover). All (λ (l : Line). m.word < l.word) ls) e.read.movers) (sym e.following) so.apart);
      },
    )
