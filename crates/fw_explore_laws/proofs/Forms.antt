-- A line that has a form is one line, and no remark.
use Rattle.fw_explore_laws.proofs.Common.{ℕ, ◌≡◌, ◌==◌, not, List, [], ◌∷◌, Bool, true, false, Some, codes, inl, inr, refl, sym, ap, subst, ◌∙◌, arith, list_all, and_parts, HasForm, Command}
use Rattle.std.proofs.Common.{is_some}
use Rattle.fw_script_command.specs.Form.{HasArguments}
use Rattle.fw_script_command.specs.Keyword.{keywords, keyword_in}
use Rattle.fw_script_command.specs.Pieces.{separated}
use Rattle.fw_script_command.specs.Types.{are_fitting, fits, range_of, types_of, word_of}
use Rattle.fw_script_command.specs.declared.command.Command.TheVariants as Commands
use Rattle.fw_script_command.specs.declared.keyword.Keyword.{Keyword}
use Rattle.fw_script_command.specs.declared.keyword.Keyword.TheVariants as Keywords
use Rattle.fw_script_command.specs.declared.word_type.WordType.{WordType}
use Rattle.fw_script_command.specs.declared.word_type.WordType.TheVariants.{Name, Shown, Kind, Speed, System, End, Plug, Channel, Offset, Quadlet, Frame, Late, Number}
use Rattle.fw_script_command.proofs.PiecesLaws.{pieces_part}
use Rattle.fw_script_command.proofs.TableLaws.{one_table}
use Rattle.fw_script.specs.Line.{is_skipped}
use Rattle.fw_explore_laws.proofs.Lines.{is_one_line}
use Rattle.fw_explore_laws.proofs.Words.{
  both_true,
  channel_one,
  frame_one,
  kind_one,
  late_one,
  meaning_has,
  meaning_text,
  name_one,
  number_one,
  offset_one,
  separated_one,
  place_one,
  shown_one,
  word_one,
}

-- ---- forms

fits_one : (t : WordType) (w : List ℕ) → fits t w ≡ true → is_one_line w ≡ true
fits_one Name w e = name_one w e
fits_one Shown w e = shown_one w e
fits_one Kind w e = kind_one w e
fits_one Speed w e = meaning_text is_one_line ((codes "100", 0) ∷ (codes "200", 1) ∷ (codes "400", 2) ∷ []) w refl e
fits_one System w e = meaning_text is_one_line ((codes "525", 525) ∷ (codes "625", 625) ∷ []) w refl e
fits_one End w e = place_one 26 w e
fits_one Plug w e = place_one 30 w e
fits_one Channel w e = channel_one w e
fits_one Offset w e = offset_one w e
fits_one Quadlet w e = word_one w e
fits_one Frame w e = frame_one w e
fits_one Late w e = late_one w e
fits_one (Number n) w e = number_one (range_of n).0 (range_of n).1 w e

fitting_one : (ts : List WordType) (ws : List (List ℕ)) → are_fitting ts ws ≡ true → list_all is_one_line ws ≡ true
fitting_one [] [] e = refl
fitting_one [] (w ∷ ws) e = absurd cc
fitting_one (t ∷ ts) [] e = refl
fitting_one (t ∷ ts) (w ∷ ws) e = let parts = and_parts (fits t w) (are_fitting ts ws) e in both_true (fits_one t w parts.0) (fitting_one ts ws parts.1)

-- begins with a byte, and not with the mark of a remark
abbrev is_begun : List ℕ → Bool
is_begun [] = false
is_begun (b ∷ w) = not (b == 35)

begun_separated : (s : ℕ) (w : List ℕ) (ws : List (List ℕ)) → is_begun w ≡ true → is_begun (separated s (w ∷ ws)) ≡ true
begun_separated s [] ws e = absurd cc
begun_separated s (b ∷ w) [] e = e
begun_separated s (b ∷ w) (v ∷ ws) e = e

begun_told : (w : List ℕ) → is_begun w ≡ true → is_skipped w ≡ false
begun_told [] e = absurd cc
begun_told (b ∷ w) e = grind arith

is_keyword : (h : List ℕ) (k : Keyword) → keyword_in h ≡ Some k → is_some (keyword_in h) ≡ true
is_keyword h k e = ap is_some e

words_of_line : {c : Command} {line : List ℕ} (h : HasForm c line) → separated 32 (h.first ∷ h.others) ≡ line
words_of_line {line = line} h = ap (separated 32) (sym h.words) ∙ (pieces_part 32 line).0

-- a line that has a form is one line
pub form_one : (c : Command) (line : List ℕ) → HasForm c line → is_one_line line ≡ true
form_one c line h =
    let first = meaning_text is_one_line keywords h.first refl (is_keyword h.first h.keyword h.named) in
    let others = fitting_one (types_of h.keyword) h.others ((one_table h.keyword h.others).1 (c, h.arguments)) in
    subst (λ (l : List ℕ). is_one_line l ≡ true) (words_of_line h) (separated_one 32 (h.first ∷ h.others) refl (both_true first others))

-- and no remark
pub form_told : (c : Command) (line : List ℕ) → HasForm c line → is_skipped line ≡ false
form_told c line h =
    let first = meaning_text is_begun keywords h.first refl (is_keyword h.first h.keyword h.named) in
    begun_told line (subst (λ (l : List ℕ). is_begun l ≡ true) (words_of_line h) (begun_separated 32 h.first h.others first))

-- ---- the line `end`

abbrev keyword_of : Command → Keyword
keyword_of (Commands.Device name kind ports speed) = Keywords.Device
keyword_of (Commands.Cable a b) = Keywords.Cable
keyword_of (Commands.Reset name) = Keywords.Reset
keyword_of (Commands.Connect name out into channel overhead) = Keywords.Connect
keyword_of (Commands.Broadcast name out overhead) = Keywords.Broadcast
keyword_of (Commands.Listen name into) = Keywords.Listen
keyword_of (Commands.Break name slot) = Keywords.Break
keyword_of (Commands.Step name count) = Keywords.Step
keyword_of (Commands.Settle rounds) = Keywords.Settle
keyword_of (Commands.Wait cycles) = Keywords.Wait
keyword_of (Commands.Cycles count) = Keywords.Cycles
keyword_of (Commands.Die name late) = Keywords.Die
keyword_of (Commands.Lose name) = Keywords.Lose
keyword_of (Commands.Start name) = Keywords.Start
keyword_of (Commands.Command name other frame) = Keywords.Command
keyword_of (Commands.Read name other offset) = Keywords.Read
keyword_of (Commands.Swap name other offset argument new) = Keywords.Swap
keyword_of (Commands.Insert name tape system) = Keywords.Insert
keyword_of (Commands.Eject name) = Keywords.Eject
keyword_of (Commands.Show name offset) = Keywords.Show
keyword_of Commands.Withhold = Keywords.Withhold
keyword_of (Commands.Candidate name) = Keywords.Candidate
keyword_of (Commands.Contend name count) = Keywords.Contend
keyword_of (Commands.Dub name) = Keywords.Dub
keyword_of Commands.End = Keywords.End

-- the last of the words' facts is the command
arguments_keyword : (k : Keyword) (ws : List (List ℕ)) (c : Command) → HasArguments k ws c → keyword_of c ≡ k
arguments_keyword Keywords.Device ws c h = ap keyword_of h.4.4.4.4.1
arguments_keyword Keywords.Cable ws c h = ap keyword_of h.4.4.1
arguments_keyword Keywords.Reset ws c h = ap keyword_of h.4.1
arguments_keyword Keywords.Connect ws c h = ap keyword_of h.4.4.4.4.4.1
arguments_keyword Keywords.Broadcast ws c h = ap keyword_of h.4.4.4.1
arguments_keyword Keywords.Listen ws c h = ap keyword_of h.4.4.1
arguments_keyword Keywords.Break ws c h = ap keyword_of h.4.4.1
arguments_keyword Keywords.Step ws c h = ap keyword_of h.4.4.1
arguments_keyword Keywords.Settle ws c h = ap keyword_of h.4.1
arguments_keyword Keywords.Wait ws c h = ap keyword_of h.4.1
arguments_keyword Keywords.Cycles ws c h = ap keyword_of h.4.1
arguments_keyword Keywords.Die ws c (inl h) = ap keyword_of h.4.1
arguments_keyword Keywords.Die ws c (inr h) = ap keyword_of h.4.4.1
arguments_keyword Keywords.Lose ws c h = ap keyword_of h.4.1
arguments_keyword Keywords.Start ws c h = ap keyword_of h.4.1
arguments_keyword Keywords.Command ws c h = ap keyword_of h.4.4.4.1
arguments_keyword Keywords.Read ws c h = ap keyword_of h.4.4.4.1
arguments_keyword Keywords.Swap ws c h = ap keyword_of h.4.4.4.4.4.1
arguments_keyword Keywords.Insert ws c h = ap keyword_of h.4.4.4.1
arguments_keyword Keywords.Eject ws c h = ap keyword_of h.4.1
arguments_keyword Keywords.Show ws c h = ap keyword_of h.4.4.1
arguments_keyword Keywords.Withhold ws c h = ap keyword_of h.1
arguments_keyword Keywords.Candidate ws c h = ap keyword_of h.4.1
arguments_keyword Keywords.Contend ws c h = ap keyword_of h.4.4.1
arguments_keyword Keywords.Dub ws c h = ap keyword_of h.4.1
arguments_keyword Keywords.End ws c h = ap keyword_of h.1

keyword_word : (w : List ℕ) (k : Keyword) → keyword_in w ≡ Some k → w ≡ word_of k
keyword_word w k e = meaning_has (λ v j. v ≡ word_of j) keywords w k (
  refl,
  (
    refl,
    (
      refl,
      (
        refl,
        (
          refl,
          (
            refl,
            (
              refl,
              (
                refl,
                (
                  refl,
                  (
                    refl,
                    (
                      refl,
                      (
                        refl,
                        (refl, (refl, (refl, (refl, (refl, (refl, (refl, (refl, (refl, (refl, (refl, (refl, (refl, tt))))))))))))),
                      ),
                    ),
                  ),
                ),
              ),
            ),
          ),
        ),
      ),
    ),
  ),
) e

-- one line alone ends a script
pub end_text : (line : List ℕ) → HasForm Commands.End line → line ≡ codes "end"
end_text line h =
    let same = arguments_keyword h.keyword h.others Commands.End h.arguments in
    let none : h.others ≡ [] = (subst (λ k. HasArguments k h.others Commands.End) (sym same) h.arguments).0 in
    let first : h.first ≡ codes "end" = keyword_word h.first Keywords.End (h.named ∙ ap Some (sym same)) in
    sym (words_of_line h) ∙ ap (λ ws. separated 32 (h.first ∷ ws)) none ∙ first
