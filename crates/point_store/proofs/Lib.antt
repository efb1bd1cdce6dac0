mod SlotSteps
