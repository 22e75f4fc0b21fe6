-- What follows for plugs, and for whole connections.
use Rattle.fw_model_reclaim.proofs.Common.{Broadcast, ◌≡◌, ℕ, ◌<◌, sym, subst, ◌∙◌, arith, sum_to_same, Connection, Flow, Established, kind_of, connections_of, held_in, Output, Input, connections_at}
use Rattle.fw_model_reclaim.proofs.Common.{IsUnbroken, IsComplete, Stands, World, CanReclaim}
use Rattle.fw_terms.proofs.Tables.{sum_to_plus}
use Rattle.fw_model_controllers.specs.Together.{IsWhole as IsThere}
use Rattle.fw_model_reclaim.specs.Due.{wanted_by}
use Rattle.fw_model_reclaim.specs.Rooms.{HasRoomForAll, AreOnOneChannel}
use Rattle.fw_model_reclaim.specs.Whole.{IsWhole, IsMade}
use Rattle.fw_model_reclaim.proofs.AfterReset.{made_output, made_input}
use Rattle.fw_model_reclaim.proofs.Complete.{complete_of}
use Rattle.fw_model_reclaim.proofs.Facts.{Facts}
use Rattle.fw_model_reclaim.proofs.Frames.{within, output_counted, input_counted}
use Rattle.fw_model_reclaim.proofs.Kept.{standing_used}
use Rattle.fw_model_reclaim.proofs.Living.{facts_in, seated_all}
use Rattle.fw_model_reclaim.proofs.Seats.{number_is}

pub room_for_all : (w : World) → CanReclaim w → HasRoomForAll w
room_for_all w h side kind q =
    let at = seated_all w h in
    let shown = number_is kind (connections_at w.account side q) (λ d far. at.seated d side Broadcast q ∙ at.beyond d side Broadcast q far) in
    let held = sum_to_same 63 (λ d. connections_of d kind (connections_at w.account side q)) (λ d. held_in w.controllers d side kind q) (λ d dl. at.seated d side kind q) in
    let plus = sum_to_plus 63 (λ d. held_in w.controllers d side kind q) (λ d. wanted_by (w.controllers d) side kind q) in
    omega (arith, h.fits.fits side kind q)

pub on_one_channel : (w : World) → CanReclaim w → AreOnOneChannel w
on_one_channel w h c i conn f q own into = sym (((h.each c).restoring i conn f own).keeps.input q into)

-- what its controller has as a number, the account has
there : {m n : ℕ} → m ≡ n → 0 < n → 0 < m
there e lt = subst (λ k. 0 < k) (sym e) lt

pub whole_there : (w : World) (c i : ℕ) (conn : Connection) (f : Flow) → CanReclaim w → IsComplete (w.controllers c) i conn f → IsThere w.account c conn f
whole_there w c i conn f h whole = go whole
  where
    x : Facts w.account c (w.controllers c)
    x = facts_in w c h

    go : IsComplete (w.controllers c) i conn f → IsThere w.account c conn f
    go (Stands e idle) =
        let lt = within (w.controllers c) i (Established conn f) x.slots e (standing_used conn f) in
        let keeps = (h.each c).standing i conn f e idle in
        record {
          output = λ p has. (there (x.seated Output (kind_of conn) p) (output_counted (w.controllers c) i conn f p lt e idle has), keeps.output p has);
          input = λ q has. (there (x.seated Input (kind_of conn) q) (input_counted (w.controllers c) i conn f q lt e idle has), keeps.input q has);
        }
    go (IsMade j work slot same) =
        let keeps = x.made j f work in
        subst (λ k. IsThere w.account c k f) same (record {
          output = λ p has. (there (x.seated Output (kind_of j.connection) p) (made_output (w.controllers c) j f p work has), keeps.output p has);
          input = λ q has. (there (x.seated Input (kind_of j.connection) q) (made_input (w.controllers c) j f q work has), keeps.input q has);
        })

pub whole_connected : (w : World) (c i : ℕ) (conn : Connection) (f : Flow) → CanReclaim w → IsUnbroken (w.controllers c) i → IsWhole w c i conn f → IsThere w.account c conn f
whole_connected w c i conn f h unbroken whole =
    let complete = (complete_of w c i conn f h unbroken whole).complete in
    let g = (complete_of w c i conn f h unbroken whole).flow in
    let is = whole_there w c i conn g h complete in
    record {
      output = λ p e. ((is.output p e).0, (whole.output p e).1);
      input = λ q e. ((is.input q e).0, (whole.input q e).1);
    }
