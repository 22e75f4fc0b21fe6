-- What remarks are told of.
use Rattle.fw_watch_laws.proofs.Common.{◌≡◌, Bool, false, Unseen, UnitsInSecond, NewInSecond, Said}
use Rattle.fw_watch_remarks.specs.declared.remark.Remark.{Remark}
use Rattle.fw_watch_remarks.specs.declared.remark.Remark.TheVariants.{Reset, Units, Takes, Returns, Plug, Sends, UnusedChannel, NotManager}
use Rattle.fw_watch_remarks.specs.declared.remark.Remark.TheVariants.{TooMany, Several, MoreThanMove, TwoSenders, NotTaken, OtherPlug}

-- bus resets, words, swaps that are not followed, swaps and what is odd in them, and channels
pub data Kind : Type 0 where
  OfReset : Kind
  OfWord : Kind
  OfRefused : Kind
  OfSwap : Kind
  OfMany : Kind
  OfUnits : Kind
  OfNew : Kind
  OfSeveral : Kind
  OfMore : Kind
  OfChannel : Kind

-- what a remark is told of
abbrev pub kind_of : Remark → Kind
kind_of (Reset epoch nodes manager) = OfReset
kind_of (Units by old new) = OfSwap
kind_of (Takes by channel) = OfSwap
kind_of (Returns by channel) = OfSwap
kind_of (Plug by at old new) = OfSwap
kind_of (Unseen at known found) = OfWord
kind_of (Sends node channel) = OfChannel
kind_of (UnusedChannel node channel) = OfChannel
kind_of (NotManager by at manager) = OfRefused
kind_of (TooMany by left) = OfMany
kind_of (UnitsInSecond by epoch taken held) = OfUnits
kind_of (NewInSecond by channel epoch) = OfNew
kind_of (Several by count) = OfSeveral
kind_of (MoreThanMove by at old new) = OfMore
kind_of (TwoSenders channel first second) = OfChannel
kind_of (NotTaken channel node) = OfChannel
kind_of (OtherPlug channel node owners) = OfChannel

-- a test passes nothing that is told of this
abbrev pub IsFree : (Said → Bool) → Kind → Type 0
IsFree q k = (x : Said) → kind_of x.remark ≡ k → q x ≡ false
