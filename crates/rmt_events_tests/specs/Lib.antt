pub mod WorkedEvents
