-- What files of this crate and of those above cite of it, in one place, and what it cites of those below.
pub mod Below
pub use Rattle.gts_standby.specs.Feed.{checkpoint_feed, feed, feed_at, feed_behind}
pub use Rattle.gts_standby.specs.Shipping.{GoesOnBehind, HasOpened, IsAtFirst, IsAtGate, IsNamed, IsQuiet, IsShipFault, OnlySyncsUnopened, Reaches, SaysFrontSynced, SaysHere, SaysOne, SaysRest, ShipsOnly, Speaks, behind_header, feed_of, ship_fault}
pub use Rattle.gts_standby.specs.Since.{Comes, EndsWith, Finds, HasFront, IsBefore, IsBehindFront, IsWithin, LooksFor, Passes, PassesUnder, asked_of, behind_at, behind_here, behind_place, feed_since, found_since, or_whole, record_at, since_of, where_so}
pub use Rattle.gts_standby.specs.Ahead.{InFeed}
pub use Rattle.gts_standby.specs.Taking.{Bad, Behind, Breaks, Broken, Cut, End, Ends, Parts, Piece, Reached, Sealed, Short, Taken, add_all, adding, and_then, begin_first, begin_with, behind_all, behind_checkpoint, behind_counted, behind_front, behind_one, by_header, by_piece, came_to, checkpoint_by, checkpoint_piece, checkpoint_seals, compare_all, compare_first, compared, first_piece, has_fewer, is_behind, is_checkpoint_fed}
pub use Rattle.gts_standby.specs.Taking.{is_further, is_other_first, may_be_cut, may_begin, or_anew, reach, reach_found, record_piece, rest_of, seals_at, seals_behind, stopped, take_records, taken, unsealed}
pub use Rattle.gts_standby.specs.Following.{AddsAllOf, Answers, AsBefore, EachImageReads, EachOpens, EndsAs, IsEnd, KeepsAllOf, LeavesAlone, LeavesFronts, LeavesUnopened, OpensWithin, ReadsToOneOf, WithFront, comes_to, open_end, own_seals, read_after, read_anew, read_at, read_begun, read_behind, start_of, state_after}
pub use Rattle.gts_standby.specs.Reading.{FindsPiece, HasRead, IsFedEnd, IsLater, IsReadEnd, IsUnsealed, KeepsOther, ReadsAll, StopsAs, StopsAt, TakesHeader, has_record, is_other, tells_next, unread}
pub use Rattle.gts_standby.specs.Gathering.{Brings, CanGather, GathersNext, GathersNone, HasBrought, HasGatheredOne, HoldsBehind, IsFinished, IsGathered, IsGathering, IsReadyEnd, IsSettled, MayBring, MayHaveBrought, StandsBehind, gate_behind, read_with}
pub use Rattle.gts_standby.specs.Adding.{AddsAll, HasAdded, HoldsAt, IsAddEnd}
pub use Rattle.gts_standby.specs.Comparing.{Compares, ComparesAll, ComparesFirstOfAny, ComparesNext, ComparesRest, HasCompared, IsAtSeals, IsBehindOne, IsDevice, IsOwnEnd, Leads, OwnGoesOn, seals_here}
pub use Rattle.gts_standby.specs.Beginning.{BeforeIt, BeginsAny, EndsBegin, HasBegun, IsPutEnd, MayBegin, WithinIt, begun_taken}
pub use Rattle.gts_standby.specs.Whole.{FindsFurther, HasTaken, IsNamedEnd, IsTakenEnd, IsWhole, StaysWhole, TakesCheckpoint, TakesFirst, TakesOther, TakesRecords}
pub use Rattle.gts_standby.specs.Fronts.{AddsFront, AddsNothing, AddsPart, FeedBrings, HasNoRecord, HasPart, IsFeedOf, IsOvertaken, IsPlainFeed, LeadsTo, nothing_read, state_of}
pub use Rattle.gts_standby.specs.Between.{AreOneBySeal, IsFoundBehind, StandsFed, records_fed, seal_behind}
pub use Rattle.gts_standby.specs.Counts.{AsksBoth, AsksFeed, AsksToShip, GoesOn, HasDiskCounts, HasEndCounts, IsStill, PassesNext}
pub use Rattle.gts_standby.specs.declared.end.FollowEnd.{FollowEnd}
pub use Rattle.gts_standby.specs.declared.end.FollowEnd.TheVariants.{DiskFault, Diverged, Done, Feed, NoMemory, Open, SourceFault}
pub use Rattle.gts_standby.specs.declared.fault.ShipFault.{ShipFault}
pub use Rattle.gts_standby.specs.declared.fed.TheConstants.{LONGEST}
pub use Rattle.gts_standby.specs.declared.gathering.Gathering.{Gathering}
pub use Rattle.gts_standby.specs.declared.since.Since.{Since}
unfoldable pub use Below.*
