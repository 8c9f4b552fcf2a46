-- The words of causes.
use Rattle.std.specs.Prelude.{ℕ, List, codes}
use Rattle.coll_parser.specs.declared.cause.Cause.{Cause}
use Rattle.coll_parser.specs.declared.cause.Cause.TheVariants.{TooLong, MissingRanks, UnknownCommand, OutOfPlace, BadWords, BadNumber, BadRank}
use Rattle.coll_parser.specs.declared.cause.Cause.TheVariants.{BadCommunicator, BadSignature, WrongValueCount, BadValue, UnknownRequest, NamedTwice}
use Rattle.coll_parser.specs.declared.cause.Cause.TheVariants.{NotStartable, TooManyRequests, PlaceMismatch, PlaceMissing, StartMissing}

-- the words by which a user knows the rule that a text breaks
abbrev pub words_of : Cause → List ℕ
words_of TooLong = codes "text too long"
words_of MissingRanks = codes "missing ranks"
words_of UnknownCommand = codes "unknown command"
words_of OutOfPlace = codes "out of place"
words_of BadWords = codes "bad words"
words_of BadNumber = codes "bad number"
words_of BadRank = codes "bad rank"
words_of BadCommunicator = codes "bad communicator"
words_of BadSignature = codes "bad signature"
words_of WrongValueCount = codes "wrong value count"
words_of BadValue = codes "bad value"
words_of UnknownRequest = codes "unknown request"
words_of NamedTwice = codes "named twice"
words_of NotStartable = codes "not startable"
words_of TooManyRequests = codes "too many requests"
words_of PlaceMismatch = codes "place mismatch"
words_of PlaceMissing = codes "place missing"
words_of StartMissing = codes "start missing"
