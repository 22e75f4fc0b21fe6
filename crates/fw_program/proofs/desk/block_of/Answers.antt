use Rattle.std.proofs.Common.{◌≡◌, ◌≢◌, ◌⊎◌, inl, inr, ℕ, ◌+◌, ◌*◌, ◌%◌, ◌<◌, List, length, slice_index, slice_set, arith, subst, sym, ◌∙◌, refl}
use Rattle.std.proofs.lemmas.Bool.{cases_eq}
use Rattle.std.proofs.lemmas.List.{get_or-set_same, get_or-set_other, length-set}
use Rattle.fw_program.specs.Blocks.{byte_of}
use Rattle.fw_program.proofs.desk.block_of.Goals as goal

-- a byte is written after those that were
more : (bytes : List ℕ) (f : ℕ → ℕ) (i x : ℕ) → i < length bytes → x ≡ f i → ((k : ℕ) → k < i → slice_index bytes k ≡ f k)
    → (k : ℕ) → k < i + 1 → slice_index (slice_set bytes i x) k ≡ f k
more bytes f i x low is below k lt = go (cases_eq k i)
  where
    go : (k ≡ i) ⊎ (k ≢ i) → slice_index (slice_set bytes i x) k ≡ f k
    go (inl e) =
        let P : ℕ → Type 0 = λ j. slice_index (slice_set bytes i x) j ≡ f j in
        subst P (sym e) (get_or-set_same bytes i x _ low ∙ is)
    go (inr ne) = get_or-set_other bytes i k x _ ne ∙ below k (omega (arith, lt, ne))

-- the byte after one
step : (first j next : ℕ) → next ≡ (first + 7 * j) % 256 → (next + 7) % 256 ≡ (first + 7 * (j + 1)) % 256
step first j next e = omega (arith, e)

pub loop-j-init : goal.loop-j-init
loop-j-init c =
    let tape = c.from.ensures in
    let frame = c.from-2.ensures in
    let block = c.from-3.ensures in
    record { size = refl; next = omega (arith, tape, frame, block); made = λ k lt. absurd (omega (arith, lt)) }

pub loop-j-preserved : goal.loop-j-preserved
loop-j-preserved c =
    let i = c.loop-j.invariant in
    let size = i.size in
    let test = c.loop-j-test.true in
    record {
      size = length-set c.loop-j.bytes c.loop-j.j _ ∙ size;
      next = step (c.args.tape + 3 * c.args.frame + 5 * c.args.block) c.loop-j.j c.loop-j.next i.next;
      made = more c.loop-j.bytes (byte_of c.args.tape c.args.frame c.args.block) c.loop-j.j _ (omega (arith, size, test)) i.next i.made;
    }

pub returns : goal.returns
returns c = record {
  size = c.loop-j.invariant.size;
  bytes_are = λ j lt. let ends = c.loop-j-test.false in c.loop-j.invariant.made j (omega (arith, lt, ends));
}
