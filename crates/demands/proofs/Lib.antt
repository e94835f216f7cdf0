-- What `model` states, proved. A statement of its specs/ is proved in the file of its name, here or, where code stands on it
-- too, in `theory`.

-- records are equal by their parts
pub mod Same
-- integers and texts, first meetings, an object more
pub mod Integers
pub mod TextPlaces
pub mod Meetings
pub mod Placing
-- demand 2, and that it leaves no choice
pub mod Demand2
pub mod NoChoice
-- images, and that collecting twice settles
pub mod TellsState
pub mod CollectedAgain
pub mod Settling
pub mod OneShift
-- the middle of P5's collection, computed
pub mod AtP5
-- the calls by their refusals: demand 1
pub mod Conditions
pub mod TextFaults
pub mod TextJudged
pub mod Judged
pub mod Demand1
-- what the calls leave and look at
pub mod Lengths
pub mod KeepSound
pub mod Changed
pub mod LaidSound
pub mod CallsPass
pub mod TextWritten
pub mod TreeRead
pub mod TextsWritable
pub mod TreeWritten
pub mod Effects
pub mod Pinned
pub mod Looks
pub mod Laws
-- the object graph, and demand 3
pub mod GraphWords
pub mod GraphReach
pub mod GraphLeaving
pub mod GraphAnswers
pub mod GraphClosed
pub mod Represents
pub mod CallsOnRoots
pub mod CallsOnFields
pub mod CallWrite
pub mod CallCollect
pub mod TellsGraph
pub mod SameImage
pub mod CallPlace
pub mod LaidRepresents
pub mod Room
pub mod CallAllocate
pub mod CallRead
pub mod Session
pub mod Start
pub mod Standing
pub mod Demand3
-- wrong machines
pub mod Rivals
pub mod RivalsOfCounts
pub mod RivalsOfSettling
pub mod RivalsOfEffects
pub mod RivalsOfLooks
pub mod RivalsOfCode
pub mod RivalsOfTexts
pub mod RivalsOfReading
