-- Each test passes what is told of one kind.
use Rattle.fw_watch_laws.proofs.Common.{◌≡◌, refl, Bool, true, false, Unseen, UnitsInSecond, NewInSecond}
use Rattle.fw_watch_remarks.specs.declared.remark.Remark.{Remark}
use Rattle.fw_watch_remarks.specs.declared.remark.Remark.TheVariants.{Reset, Units, Takes, Returns, Plug, Sends, UnusedChannel, NotManager}
use Rattle.fw_watch_remarks.specs.declared.remark.Remark.TheVariants.{TooMany, Several, MoreThanMove, TwoSenders, NotTaken, OtherPlug}
use Rattle.fw_watch_laws.specs.ChangedUnseen.{tells_unseen}
use Rattle.fw_watch_laws.specs.Orderly.{is_not_manager, is_too_many, is_several, is_more}
use Rattle.fw_watch_laws.proofs.Remarked.{Kind, OfWord, OfRefused, OfMany, OfSeveral, OfMore, kind_of}

abbrev pub is_of_word : Kind → Bool
is_of_word OfWord = true
is_of_word _ = false

pub tells_unseen_by : (r : Remark) → tells_unseen r ≡ is_of_word (kind_of r)
tells_unseen_by (Reset epoch nodes manager) = refl
tells_unseen_by (Units by old new) = refl
tells_unseen_by (Takes by channel) = refl
tells_unseen_by (Returns by channel) = refl
tells_unseen_by (Plug by at old new) = refl
tells_unseen_by (Unseen at known found) = refl
tells_unseen_by (Sends node channel) = refl
tells_unseen_by (UnusedChannel node channel) = refl
tells_unseen_by (NotManager by at manager) = refl
tells_unseen_by (TooMany by left) = refl
tells_unseen_by (UnitsInSecond by epoch taken held) = refl
tells_unseen_by (NewInSecond by channel epoch) = refl
tells_unseen_by (Several by count) = refl
tells_unseen_by (MoreThanMove by at old new) = refl
tells_unseen_by (TwoSenders channel first second) = refl
tells_unseen_by (NotTaken channel node) = refl
tells_unseen_by (OtherPlug channel node owners) = refl

abbrev pub is_of_refused : Kind → Bool
is_of_refused OfRefused = true
is_of_refused _ = false

pub is_not_manager_by : (r : Remark) → is_not_manager r ≡ is_of_refused (kind_of r)
is_not_manager_by (Reset epoch nodes manager) = refl
is_not_manager_by (Units by old new) = refl
is_not_manager_by (Takes by channel) = refl
is_not_manager_by (Returns by channel) = refl
is_not_manager_by (Plug by at old new) = refl
is_not_manager_by (Unseen at known found) = refl
is_not_manager_by (Sends node channel) = refl
is_not_manager_by (UnusedChannel node channel) = refl
is_not_manager_by (NotManager by at manager) = refl
is_not_manager_by (TooMany by left) = refl
is_not_manager_by (UnitsInSecond by epoch taken held) = refl
is_not_manager_by (NewInSecond by channel epoch) = refl
is_not_manager_by (Several by count) = refl
is_not_manager_by (MoreThanMove by at old new) = refl
is_not_manager_by (TwoSenders channel first second) = refl
is_not_manager_by (NotTaken channel node) = refl
is_not_manager_by (OtherPlug channel node owners) = refl

abbrev pub is_of_many : Kind → Bool
is_of_many OfMany = true
is_of_many _ = false

pub is_too_many_by : (r : Remark) → is_too_many r ≡ is_of_many (kind_of r)
is_too_many_by (Reset epoch nodes manager) = refl
is_too_many_by (Units by old new) = refl
is_too_many_by (Takes by channel) = refl
is_too_many_by (Returns by channel) = refl
is_too_many_by (Plug by at old new) = refl
is_too_many_by (Unseen at known found) = refl
is_too_many_by (Sends node channel) = refl
is_too_many_by (UnusedChannel node channel) = refl
is_too_many_by (NotManager by at manager) = refl
is_too_many_by (TooMany by left) = refl
is_too_many_by (UnitsInSecond by epoch taken held) = refl
is_too_many_by (NewInSecond by channel epoch) = refl
is_too_many_by (Several by count) = refl
is_too_many_by (MoreThanMove by at old new) = refl
is_too_many_by (TwoSenders channel first second) = refl
is_too_many_by (NotTaken channel node) = refl
is_too_many_by (OtherPlug channel node owners) = refl

abbrev pub is_of_several : Kind → Bool
is_of_several OfSeveral = true
is_of_several _ = false

pub is_several_by : (r : Remark) → is_several r ≡ is_of_several (kind_of r)
is_several_by (Reset epoch nodes manager) = refl
is_several_by (Units by old new) = refl
is_several_by (Takes by channel) = refl
is_several_by (Returns by channel) = refl
is_several_by (Plug by at old new) = refl
is_several_by (Unseen at known found) = refl
is_several_by (Sends node channel) = refl
is_several_by (UnusedChannel node channel) = refl
is_several_by (NotManager by at manager) = refl
is_several_by (TooMany by left) = refl
is_several_by (UnitsInSecond by epoch taken held) = refl
is_several_by (NewInSecond by channel epoch) = refl
is_several_by (Several by count) = refl
is_several_by (MoreThanMove by at old new) = refl
is_several_by (TwoSenders channel first second) = refl
is_several_by (NotTaken channel node) = refl
is_several_by (OtherPlug channel node owners) = refl

abbrev pub is_of_more : Kind → Bool
is_of_more OfMore = true
is_of_more _ = false

pub is_more_by : (r : Remark) → is_more r ≡ is_of_more (kind_of r)
is_more_by (Reset epoch nodes manager) = refl
is_more_by (Units by old new) = refl
is_more_by (Takes by channel) = refl
is_more_by (Returns by channel) = refl
is_more_by (Plug by at old new) = refl
is_more_by (Unseen at known found) = refl
is_more_by (Sends node channel) = refl
is_more_by (UnusedChannel node channel) = refl
is_more_by (NotManager by at manager) = refl
is_more_by (TooMany by left) = refl
is_more_by (UnitsInSecond by epoch taken held) = refl
is_more_by (NewInSecond by channel epoch) = refl
is_more_by (Several by count) = refl
is_more_by (MoreThanMove by at old new) = refl
is_more_by (TwoSenders channel first second) = refl
is_more_by (NotTaken channel node) = refl
is_more_by (OtherPlug channel node owners) = refl
