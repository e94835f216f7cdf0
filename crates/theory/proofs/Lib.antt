-- What follows from the definitions, by subject: the laws on which the proofs of the code and of the demands stand.

-- lists and tests
pub mod Tests
pub mod Members
pub mod Lists
-- words, headers, answers, texts
pub mod WordSorts
pub mod Headers
pub mod PlainAnswers
pub mod Refusing
pub mod Telling
pub mod Unseen
pub mod Texts
pub mod Numerals
pub mod Reading
pub mod ReadThrough
-- the order of discovery, for heaps and graphs alike
pub mod Visits
pub mod Packed
pub mod Discovery
pub mod Breadth
pub mod DiscoveryAlike
pub mod Counting
-- SHAPE, objects, tilings, soundness; the conditions and their tests
pub mod Shape
pub mod Objects
pub mod Tiling
pub mod Retiling
pub mod Soundness
pub mod Walks
pub mod Values
pub mod Keeping
pub mod Deciding
-- a collection: its order, and what it leaves
pub mod Halves
pub mod Copies
pub mod Order
pub mod Collected
pub mod CollectedSound
-- its middle
pub mod Stage
pub mod During
pub mod Middle
-- the first row that applies; where reading goes wrong
pub mod Rows
pub mod ReadJudged
-- what the calls leave, what a text puts into the heap, what a window shows
pub mod Leaving
pub mod Laying
pub mod Window
